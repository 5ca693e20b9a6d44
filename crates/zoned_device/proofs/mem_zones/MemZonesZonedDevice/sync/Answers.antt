use Rattle.std.proofs.Common.{◌≡◌, Some, sym, ◌∙◌, ap, subst}
use Rattle.zoned_device.specs.Content.{Sync, AllBefore}
use Rattle.zoned_device.specs.MemState.{MemState, image_of, HoldsMoments}
use Rattle.zoned_device.proofs.DeviceCalls.{call_valid, call_began, call_leaves, call_stands, call_after, sync_infos}
use Rattle.zoned_device.proofs.mem_zones.MemZonesZonedDevice.sync.Goals as goal

-- the device has the content that the call is made with
old_is : (c : goal.After-sync) → ◌≡◌ {A = MemState} (record { content = Some c.in-Some.record; calls = c.self.inside.calls }) c.args.self.now
old_is c = sym (ap (λ o. record { content = o; calls = c.self.inside.calls }) c.in-Some.is) ∙ c.self.view_is

began_is : (c : goal.After-sync) → AllBefore c.self.inside.calls.tick c.in-Some.record.events
began_is c =
    let holds : HoldsMoments c.self.inside.calls.tick (Some c.in-Some.record) = subst (HoldsMoments c.self.inside.calls.tick) c.in-Some.is c.self.invariant in
    holds.0

pub invariant_of-self : goal.invariant_of-self
invariant_of-self c = (call_began c.args.self.now c.in-Some.record c.self.inside.calls (Sync) (old_is c) c.requires (tt) (began_is c) c.sync.ensures.within c.sync.new.record c.sync.new.calls c.sync.ensures.content c.sync.ensures.counts, (call_valid c.args.self.now c.in-Some.record c.self.inside.calls (Sync) (old_is c) c.requires (tt) (began_is c) c.sync.ensures.within c.sync.new.record c.sync.new.calls c.sync.ensures.content c.sync.ensures.counts).moments)

pub returns-clause-still_known : goal.returns-clause-still_known
returns-clause-still_known c = call_valid c.args.self.now c.in-Some.record c.self.inside.calls (Sync) (old_is c) c.requires (tt) (began_is c) c.sync.ensures.within c.sync.new.record c.sync.new.calls c.sync.ensures.content c.sync.ensures.counts

pub returns-clause-passes : goal.returns-clause-passes
returns-clause-passes c = call_leaves c.args.self.now c.in-Some.record c.self.inside.calls (Sync) (old_is c) c.requires (tt) (began_is c) c.sync.ensures.within c.sync.new.record c.sync.new.calls c.sync.ensures.content c.sync.ensures.counts

pub returns-clause-same_infos : goal.returns-clause-same_infos
returns-clause-same_infos c = sync_infos (image_of c.args.self.now) c.sync.new.record.standing (call_stands c.args.self.now c.in-Some.record c.self.inside.calls Sync (old_is c) c.requires tt (began_is c) c.sync.ensures.within c.sync.new.record c.sync.new.calls c.sync.ensures.content c.sync.ensures.counts)

pub returns-clause-after_call : goal.returns-clause-after_call
returns-clause-after_call c = call_after c.args.self.now c.in-Some.record c.self.inside.calls (Sync) (old_is c) c.requires (tt) (began_is c) c.sync.ensures.within c.sync.new.record c.sync.new.calls c.sync.ensures.content c.sync.ensures.counts

use Rattle.std.proofs.Common.{◌≡◌, Some, sym, ◌∙◌, ap, subst}
use Rattle.zone_image.specs.Infos.{infos_of}
use Rattle.zone_image.proofs.InfoLaws.{infos-emptied}
use Rattle.zoned_device.specs.Content.{Reset, AllBefore}
use Rattle.zoned_device.specs.MemState.{MemState, image_of, HoldsMoments}
use Rattle.zoned_device.proofs.DeviceCalls.{on_ok, on_err, call_valid, call_began, call_leaves, call_done, call_stands, call_ended, call_after, shows_same, reset_shows}
use Rattle.zoned_device.proofs.mem_zones.MemZonesZonedDevice.reset.Goals as goal

-- the device has the content that the call is made with
old_is : (c : goal.After-reset) → ◌≡◌ {A = MemState} (record { content = Some c.in-Some.record; calls = c.self.inside.calls }) c.args.self.now
old_is c = sym (ap (λ o. record { content = o; calls = c.self.inside.calls }) c.in-Some.is) ∙ c.self.view_is

began_is : (c : goal.After-reset) → AllBefore c.self.inside.calls.tick c.in-Some.record.events
began_is c =
    let holds : HoldsMoments c.self.inside.calls.tick (Some c.in-Some.record) = subst (HoldsMoments c.self.inside.calls.tick) c.in-Some.is c.self.invariant in
    holds.0

pub invariant_of-self : goal.invariant_of-self
invariant_of-self c = (call_began c.args.self.now c.in-Some.record c.self.inside.calls (Reset c.args.zone) (old_is c) c.requires.is_known (c.requires.is_zone) (began_is c) c.reset.ensures.within c.reset.new.record c.reset.new.calls c.reset.ensures.content c.reset.ensures.counts, (call_valid c.args.self.now c.in-Some.record c.self.inside.calls (Reset c.args.zone) (old_is c) c.requires.is_known (c.requires.is_zone) (began_is c) c.reset.ensures.within c.reset.new.record c.reset.new.calls c.reset.ensures.content c.reset.ensures.counts).moments)

pub returns-clause-still_known : goal.returns-clause-still_known
returns-clause-still_known c = call_valid c.args.self.now c.in-Some.record c.self.inside.calls (Reset c.args.zone) (old_is c) c.requires.is_known (c.requires.is_zone) (began_is c) c.reset.ensures.within c.reset.new.record c.reset.new.calls c.reset.ensures.content c.reset.ensures.counts

pub returns-clause-passes : goal.returns-clause-passes
returns-clause-passes c = call_leaves c.args.self.now c.in-Some.record c.self.inside.calls (Reset c.args.zone) (old_is c) c.requires.is_known (c.requires.is_zone) (began_is c) c.reset.ensures.within c.reset.new.record c.reset.new.calls c.reset.ensures.content c.reset.ensures.counts

pub returns-clause-new_infos : goal.returns-clause-new_infos
returns-clause-new_infos c = on_ok c.reset.result _ c.reset.ensures.answer (λ done. ap infos_of (call_done c.args.self.now c.in-Some.record c.self.inside.calls (Reset c.args.zone) (old_is c) c.requires.is_known (c.requires.is_zone) (began_is c) c.reset.ensures.within c.reset.new.record c.reset.new.calls c.reset.ensures.content c.reset.ensures.counts done) ∙ infos-emptied (image_of c.args.self.now) c.args.zone)

pub returns-clause-after_fault : goal.returns-clause-after_fault
returns-clause-after_fault c = on_err c.reset.result (reset_shows (image_of c.args.self.now) c.reset.new.record.standing c.args.zone (call_stands c.args.self.now c.in-Some.record c.self.inside.calls (Reset c.args.zone) (old_is c) c.requires.is_known (c.requires.is_zone) (began_is c) c.reset.ensures.within c.reset.new.record c.reset.new.calls c.reset.ensures.content c.reset.ensures.counts))

pub returns-clause-at_end : goal.returns-clause-at_end
returns-clause-at_end c = λ told end. shows_same (image_of c.args.self.now) c.reset.new.record.standing (call_ended c.args.self.now c.in-Some.record c.self.inside.calls (Reset c.args.zone) (old_is c) c.requires.is_known (c.requires.is_zone) (began_is c) c.reset.ensures.within c.reset.new.record c.reset.new.calls c.reset.ensures.content c.reset.ensures.counts end)

pub returns-clause-after_call : goal.returns-clause-after_call
returns-clause-after_call c = call_after c.args.self.now c.in-Some.record c.self.inside.calls (Reset c.args.zone) (old_is c) c.requires.is_known (c.requires.is_zone) (began_is c) c.reset.ensures.within c.reset.new.record c.reset.new.calls c.reset.ensures.content c.reset.ensures.counts

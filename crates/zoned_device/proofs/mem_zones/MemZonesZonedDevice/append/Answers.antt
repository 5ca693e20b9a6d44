use Rattle.std.proofs.Common.{◌≡◌, ◌%◌, length, Some, sym, ◌∙◌, ap, subst}
use Rattle.std.specs.Prelude.{is_ok, is_none, ◌&&◌}
use Rattle.zone_image.specs.Changes.{blocks_in}
use Rattle.zone_image.specs.Infos.{infos_of, IsValidImage}
use Rattle.zone_image.proofs.InfoLaws.{infos_written}
use Rattle.zoned_device.specs.Content.{IsValidContent, Append, AllBefore, content_after, calls_after, is_done, room_for}
use Rattle.zoned_device.specs.MemState.{MemState, image_of, IsKnown, HoldsMoments, passes}
use Rattle.zoned_device.specs.CallState.{fault_of}
use Rattle.zoned_device.proofs.Changes.{CanAppend}
use Rattle.zoned_device.proofs.Records.{written_bytes}
use Rattle.zoned_device.proofs.DeviceAppends.{can_append, append_shows, passed_same, passed_part, within_same, within_part}
use Rattle.zoned_device.proofs.DeviceCalls.{on_ok, on_err, fails_where, call_valid, call_began, call_leaves, call_done, call_stands, call_since, call_left, call_ended, call_after, shows_same}
use Rattle.zoned_device.proofs.mem_zones.MemZonesZonedDevice.append.Goals as goal

-- the device has the content that the call is made with
old_is : (c : goal.After-append) → ◌≡◌ {A = MemState} (record { content = Some c.in-Some.record; calls = c.self.inside.calls }) c.args.self.now
old_is c = sym (ap (λ o. record { content = o; calls = c.self.inside.calls }) c.in-Some.is) ∙ c.self.view_is

began_is : (c : goal.After-append) → AllBefore c.self.inside.calls.tick c.in-Some.record.events
began_is c =
    let holds : HoldsMoments c.self.inside.calls.tick (Some c.in-Some.record) = subst (HoldsMoments c.self.inside.calls.tick) c.in-Some.is c.self.invariant in
    holds.0

can : (c : goal.After-append) → CanAppend (image_of c.args.self.now) c.args.zone (blocks_in (image_of c.args.self.now).geometry c.args.bytes.now)
can c = can_append (image_of c.args.self.now) c.args.zone c.args.bytes.now c.requires.is_zone c.requires.some c.requires.whole c.requires.unsealed c.requires.room c.requires.active

image_is : (c : goal.After-append) → IsValidImage (image_of c.args.self.now)
image_is c =
    let valid : IsValidContent c.in-Some.record = subst IsKnown (sym (old_is c)) c.requires.is_known in
    subst (λ (m : MemState). IsValidImage (image_of m)) (old_is c) valid.standing

same_blocks : (c : goal.After-append) → blocks_in c.in-Some.record.standing.geometry c.args.bytes.now ≡ blocks_in (image_of c.args.self.now).geometry c.args.bytes.now
same_blocks c = ap (λ (m : MemState). blocks_in (image_of m).geometry c.args.bytes.now) (old_is c)

content_is : (c : goal.After-append) → c.append.new.record ≡ content_after c.self.inside.calls (Append c.args.zone (blocks_in (image_of c.args.self.now).geometry c.args.bytes.now)) c.in-Some.record
content_is c = c.append.ensures.content ∙ ap (λ bs. content_after c.self.inside.calls (Append c.args.zone bs) c.in-Some.record) (same_blocks c)

counts_is : (c : goal.After-append) → c.append.new.calls ≡ calls_after c.self.inside.calls (Append c.args.zone (blocks_in (image_of c.args.self.now).geometry c.args.bytes.now)) c.in-Some.record
counts_is c = c.append.ensures.counts ∙ ap (λ bs. calls_after c.self.inside.calls (Append c.args.zone bs) c.in-Some.record) (same_blocks c)

answer_is : (c : goal.After-append) → is_ok c.append.result ≡ is_done c.self.inside.calls (Append c.args.zone (blocks_in (image_of c.args.self.now).geometry c.args.bytes.now)) c.in-Some.record
answer_is c = c.append.ensures.answer ∙ ap (λ bs. is_done c.self.inside.calls (Append c.args.zone bs) c.in-Some.record) (same_blocks c)

pub invariant_of-self : goal.invariant_of-self
invariant_of-self c = (call_began c.args.self.now c.in-Some.record c.self.inside.calls (Append c.args.zone (blocks_in (image_of c.args.self.now).geometry c.args.bytes.now)) (old_is c) c.requires.is_known (can c) (began_is c) c.append.ensures.within c.append.new.record c.append.new.calls (content_is c) (counts_is c), (call_valid c.args.self.now c.in-Some.record c.self.inside.calls (Append c.args.zone (blocks_in (image_of c.args.self.now).geometry c.args.bytes.now)) (old_is c) c.requires.is_known (can c) (began_is c) c.append.ensures.within c.append.new.record c.append.new.calls (content_is c) (counts_is c)).moments)

pub returns-clause-still_known : goal.returns-clause-still_known
returns-clause-still_known c = call_valid c.args.self.now c.in-Some.record c.self.inside.calls (Append c.args.zone (blocks_in (image_of c.args.self.now).geometry c.args.bytes.now)) (old_is c) c.requires.is_known (can c) (began_is c) c.append.ensures.within c.append.new.record c.append.new.calls (content_is c) (counts_is c)

pub returns-clause-passes : goal.returns-clause-passes
returns-clause-passes c = call_leaves c.args.self.now c.in-Some.record c.self.inside.calls (Append c.args.zone (blocks_in (image_of c.args.self.now).geometry c.args.bytes.now)) (old_is c) c.requires.is_known (can c) (began_is c) c.append.ensures.within c.append.new.record c.append.new.calls (content_is c) (counts_is c)

pub returns-clause-new_infos : goal.returns-clause-new_infos
returns-clause-new_infos c = on_ok c.append.result _ (answer_is c) (λ done. ap infos_of (call_done c.args.self.now c.in-Some.record c.self.inside.calls (Append c.args.zone (blocks_in (image_of c.args.self.now).geometry c.args.bytes.now)) (old_is c) c.requires.is_known (can c) (began_is c) c.append.ensures.within c.append.new.record c.append.new.calls (content_is c) (counts_is c) done) ∙ infos_written (image_of c.args.self.now) c.args.zone c.args.bytes.now)

pub returns-clause-after_fault : goal.returns-clause-after_fault
returns-clause-after_fault c = on_err c.append.result (append_shows (image_of c.args.self.now) c.append.new.record.standing c.args.zone (blocks_in (image_of c.args.self.now).geometry c.args.bytes.now) (can c) (image_is c) (call_stands c.args.self.now c.in-Some.record c.self.inside.calls (Append c.args.zone (blocks_in (image_of c.args.self.now).geometry c.args.bytes.now)) (old_is c) c.requires.is_known (can c) (began_is c) c.append.ensures.within c.append.new.record c.append.new.calls (content_is c) (counts_is c)))

pub returns-clause-passed : goal.returns-clause-passed
returns-clause-passed c = λ k j told le crash.
    call_since c.args.self.now c.in-Some.record c.self.inside.calls (Append c.args.zone (blocks_in (image_of c.args.self.now).geometry c.args.bytes.now)) (old_is c) c.requires.is_known (can c) (began_is c) c.append.ensures.within c.append.new.record c.append.new.calls (content_is c) (counts_is c) j
    (λ same. passed_same (image_of c.args.self.now) c.append.new.record.standing c.args.zone (blocks_in (image_of c.args.self.now).geometry c.args.bytes.now) (can c) (image_is c) k j le same crash)
    (λ d part stands. passed_part (image_of c.args.self.now) c.append.new.record.standing c.args.zone (blocks_in (image_of c.args.self.now).geometry c.args.bytes.now) (can c) (image_is c) k j le d part stands crash)

pub returns-clause-within : goal.returns-clause-within
returns-clause-within c = λ j left. call_left c.args.self.now c.in-Some.record c.self.inside.calls (Append c.args.zone (blocks_in (image_of c.args.self.now).geometry c.args.bytes.now)) (old_is c) c.requires.is_known (can c) (began_is c) c.append.ensures.within c.append.new.record c.append.new.calls (content_is c) (counts_is c) j left
    (λ same crash. within_same (image_of c.args.self.now) c.append.new.record.standing c.args.zone (blocks_in (image_of c.args.self.now).geometry c.args.bytes.now) (can c) (image_is c) j same crash)
    (λ d part stands passed. within_part (image_of c.args.self.now) c.append.new.record.standing c.args.zone (blocks_in (image_of c.args.self.now).geometry c.args.bytes.now) (can c) (image_is c) j d part stands passed)

pub returns-clause-at_end : goal.returns-clause-at_end
returns-clause-at_end c = λ told end. shows_same (image_of c.args.self.now) c.append.new.record.standing (call_ended c.args.self.now c.in-Some.record c.self.inside.calls (Append c.args.zone (blocks_in (image_of c.args.self.now).geometry c.args.bytes.now)) (old_is c) c.requires.is_known (can c) (began_is c) c.append.ensures.within c.append.new.record c.append.new.calls (content_is c) (counts_is c) end)

pub returns-clause-after_call : goal.returns-clause-after_call
returns-clause-after_call c = call_after c.args.self.now c.in-Some.record c.self.inside.calls (Append c.args.zone (blocks_in (image_of c.args.self.now).geometry c.args.bytes.now)) (old_is c) c.requires.is_known (can c) (began_is c) c.append.ensures.within c.append.new.record c.append.new.calls (content_is c) (counts_is c)

-- it passes where it isn't to fail and there is room for its bytes
passes_is : (c : goal.After-append) → passes c.args.self.now (Some (length c.args.bytes.now)) ≡ is_done c.self.inside.calls (Append c.args.zone (blocks_in c.in-Some.record.standing.geometry c.args.bytes.now)) c.in-Some.record
passes_is c =
    let whole = subst (λ (m : MemState). length c.args.bytes.now % (image_of m).geometry.block ≡ 0) (sym (old_is c)) c.requires.whole in
    sym (ap (λ m. passes m (Some (length c.args.bytes.now))) (old_is c))
    ∙ ap (λ n. is_none (fault_of c.self.inside.calls) && room_for c.in-Some.record n) (written_bytes c.in-Some.record.standing.geometry c.args.zone c.args.bytes.now whole)

pub returns-clause-may_fail : goal.returns-clause-may_fail
returns-clause-may_fail c = (fails_where c.append.result _ _ (passes_is c) c.append.ensures.answer).0

pub returns-clause-must_fail : goal.returns-clause-must_fail
returns-clause-must_fail c = (fails_where c.append.result _ _ (passes_is c) c.append.ensures.answer).1

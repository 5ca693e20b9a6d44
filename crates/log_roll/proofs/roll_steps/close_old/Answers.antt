use Rattle.std.proofs.Common.{◌≡◌, ◌<◌, false, true, length, ap, sym, subst, ◌∙◌, arith}
use Rattle.zone_image.specs.declared.Geometry.{Geometry}
use Rattle.zone_image.specs.Changes.{synced}
use Rattle.zone_image.specs.Infos.{info_at, active_zones}
use Rattle.zoned_device.specs.DeviceSteps.{ChangesDevice}
use Rattle.log_roll.specs.Resets.{emptied_two, infos_emptied_two}
use Rattle.log_roll.specs.Rolling.{PassedByClose, PassedByStart, next_zone, third_zone}
use Rattle.zoned_device.proofs.DeviceLaws.{both_done}
use Rattle.log_roll.proofs.Rolled.{active_started}
use Rattle.log_roll.proofs.KeptData.{both_kept}
use Rattle.log_roll.proofs.roll_steps.close_old.Goals as goal

pub close_log-requires-clause-active : goal.close_log-requires-clause-active
close_log-requires-clause-active g c = λ none.
    let D = g.D.ZonedDevice in
    let dev = c.args.dev.now in
    let after = c.start_roll.new.dev in
    let made = c.in_ok-start_roll.ensures.infos ∙ (λ k. infos_emptied_two (D.infos dev) (c.next_zone.ensures k) (c.third_zone.ensures k)) in
    let known = c.in_ok-start_roll.ensures.device.still_known in
    let count = (g.met.D.ZonedDevice.possible after known).count ∙ ap (λ (s : Geometry). s.zones) c.in_ok-start_roll.ensures.device.same_geometry in
    let long : 2 < length (D.infos after) = omega (arith, count, c.requires.metadata) in
    subst (λ infos. active_zones infos < c.args.geometry.now.active_limit) (sym made)
    (active_started (D.infos dev) c.args.zone c.args.geometry.now.active_limit c.requires.is_metadata (subst (λ infos. 2 < length infos) made long) c.requires.active
    (ap (λ infos. (info_at infos c.args.zone).written) (sym made) ∙ none))

pub returns-clause-device : goal.returns-clause-device
returns-clause-device g c =
    let D = g.D.ZonedDevice in
    let zone = c.args.zone in
    let made = λ (told : D.tells). c.in_ok-start_roll.ensures.image told ∙ (λ k. emptied_two (synced (D.image c.args.dev.now)) (c.next_zone.ensures k) (c.third_zone.ensures k)) in
    both_done g.met.D.ZonedDevice.moments (PassedByStart (next_zone zone) (third_zone zone)) (PassedByClose c.args.can_end zone)
    (λ i. emptied_two (synced i) (next_zone zone) (third_zone zone))
    (subst (λ a. ChangesDevice D.known D.geometry D.tells D.image D.tick D.since D.faults D.failed_changes c.args.dev.now c.start_roll.new.dev (false ≡ true) (PassedByStart a (third_zone zone) (D.image c.args.dev.now))) c.next_zone.ensures
    (subst (λ b. ChangesDevice D.known D.geometry D.tells D.image D.tick D.since D.faults D.failed_changes c.args.dev.now c.start_roll.new.dev (false ≡ true) (PassedByStart c.next_zone.result b (D.image c.args.dev.now))) c.third_zone.ensures
    c.in_ok-start_roll.ensures.device))
    (λ failed. cc) made c.close_log.ensures.device

pub returns-clause-data_kept : goal.returns-clause-data_kept
returns-clause-data_kept g c = both_kept (c.in_ok-start_roll.ensures.data_kept (omega (arith, c.next_zone.ensures)) (omega (arith, c.third_zone.ensures))) (c.close_log.ensures.data_kept c.requires.is_metadata)

use Rattle.std.proofs.Common.{◌≡◌, true, false, subst, ap, ◌∙◌, arith, inl, refl, rules}
use Rattle.zone_image.specs.declared.Geometry.{Geometry}
use Rattle.zone_image.specs.Changes.{synced}
use Rattle.zone_image.specs.Moments.{PassedByReset}
use Rattle.log_model.specs.LogScan.{record_blocks}
use Rattle.zoned_device.specs.DeviceSteps.{ChangesDevice}
use Rattle.log_roll.specs.NewLog.{begun}
use Rattle.log_roll.specs.Rolling.{PassedByWrite, next_zone, PassedByReplace}
use Rattle.zoned_device.proofs.DeviceLaws.{both_done, done_as}
use Rattle.log_roll.proofs.KeptData.{both_kept}
use Rattle.log_roll.proofs.roll_steps.replace_old.Goals as goal

pub returns-clause-device : goal.returns-clause-device
returns-clause-device g c =
    let D = g.D.ZonedDevice in
    let shape : Geometry = c.args.geometry.now in
    let zone = c.args.zone in
    let first = record_blocks shape.block c.args.superblock.now in
    let second = record_blocks shape.block c.args.snapshot.now in
    both_done g.met.D.ZonedDevice.moments (PassedByWrite (next_zone zone) first second) (λ i. PassedByReset i zone)
    (λ i. synced (begun (next_zone zone) first second i))
    (subst (λ a. ChangesDevice D.known D.geometry D.tells D.image D.tick D.since D.faults D.failed_changes c.args.dev.now c.write_new.new.dev (false ≡ true) (PassedByWrite a first second (D.image c.args.dev.now))) c.next_zone-next.ensures
    c.in_ok-write_new.ensures.device)
    (λ failed. cc) (λ told. c.in_ok-write_new.ensures.image told ∙ ap (λ a. synced (begun a first second (D.image c.args.dev.now))) c.next_zone-next.ensures) c.reset.ensures.device

pub returns-clause-data_kept : goal.returns-clause-data_kept
returns-clause-data_kept g c = both_kept (c.in_ok-write_new.ensures.data_kept (omega (arith, c.next_zone-next.ensures))) (c.reset.ensures.data_kept c.requires.is_metadata)

pub returns-in_err-write_new-clause-device : goal.returns-in_err-write_new-clause-device
returns-in_err-write_new-clause-device g c =
    let D = g.D.ZonedDevice in
    let shape : Geometry = c.args.geometry.now in
    let first = record_blocks shape.block c.args.superblock.now in
    let second = record_blocks shape.block c.args.snapshot.now in
    done_as g.met.D.ZonedDevice.moments _ (PassedByReplace c.args.zone first second (D.image c.args.dev.now))
    (subst (λ a. ChangesDevice D.known D.geometry D.tells D.image D.tick D.since D.faults D.failed_changes c.args.dev.now c.write_new.new.dev (true ≡ true) (PassedByWrite a first second (D.image c.args.dev.now))) c.next_zone-next.ensures
    c.in_err-write_new.ensures.device)
    (search rules) (λ failed. refl) (λ j told passed. inl passed)

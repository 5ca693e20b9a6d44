use Rattle.zone_image.specs.declared.Geometry.{Geometry}
use Rattle.zone_image.specs.Image.{IsCrash}
use Rattle.log_model.specs.LogScan.{record_blocks}
use Rattle.log_roll.specs.NewLog.{PassedByNewLog, begun}
use Rattle.zoned_device.proofs.DeviceLaws.{both_done, done_as}
use Rattle.log_roll.proofs.KeptData.{both_kept}
use Rattle.std.proofs.Common.{inl, refl, rules}
use Rattle.log_roll.specs.Rolling.{PassedByWrite}
use Rattle.log_roll.proofs.roll_steps.write_new.Goals as goal

pub returns-clause-device : goal.returns-clause-device
returns-clause-device g c =
    let shape : Geometry = c.args.geometry.now in
    let first = record_blocks shape.block c.args.superblock.now in
    let second = record_blocks shape.block c.args.snapshot.now in
    both_done g.met.D.ZonedDevice.moments (PassedByNewLog c.args.zone first second) (λ i. IsCrash i) (begun c.args.zone first second)
    c.in_ok-begin_log.ensures.device (λ failed. cc) c.in_ok-begin_log.ensures.image c.sync.ensures.device

pub returns-clause-data_kept : goal.returns-clause-data_kept
returns-clause-data_kept g c = λ below. both_kept (c.in_ok-begin_log.ensures.data_kept below) c.sync.ensures.data_kept

pub returns-in_err-begin_log-clause-device : goal.returns-in_err-begin_log-clause-device
returns-in_err-begin_log-clause-device g c =
    let shape : Geometry = c.args.geometry.now in
    let first = record_blocks shape.block c.args.superblock.now in
    let second = record_blocks shape.block c.args.snapshot.now in
    done_as g.met.D.ZonedDevice.moments _ (PassedByWrite c.args.zone first second (g.D.ZonedDevice.image c.args.dev.now)) c.in_err-begin_log.ensures.device (search rules) (λ failed. refl)
    (λ j told passed. inl passed)

use Rattle.zone_image.specs.declared.Geometry.{Geometry}
use Rattle.zone_image.specs.Image.{IsCrash}
use Rattle.log_model.specs.LogScan.{record_blocks}
use Rattle.log_roll.specs.NewLog.{PassedByNewLog, begun}
use Rattle.log_roll.specs.declared.formatting.TheConstants.{EMPTY_SNAPSHOT}
use Rattle.zoned_device.proofs.DeviceLaws.{both_done}
use Rattle.log_roll.proofs.formatting.write_first_log.Goals as goal

pub returns-clause-device : goal.returns-clause-device
returns-clause-device g c =
    let shape : Geometry = c.args.geometry.now in
    let first = record_blocks shape.block c.args.superblock.now in
    let second = record_blocks shape.block EMPTY_SNAPSHOT in
    both_done g.met.D.ZonedDevice.moments (PassedByNewLog 0 first second) (λ i. IsCrash i) (begun 0 first second)
    c.in_ok-begin_log.ensures.device (λ failed. cc) c.in_ok-begin_log.ensures.image c.sync.ensures.device

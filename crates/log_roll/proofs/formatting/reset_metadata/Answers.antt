use Rattle.zone_image.specs.Image.{IsCrash}
use Rattle.zone_image.specs.Changes.{synced}
use Rattle.log_roll.specs.Resets.{PassedByThreeResets}
use Rattle.zoned_device.proofs.DeviceLaws.{both_done}
use Rattle.log_roll.proofs.formatting.reset_metadata.Goals as goal

pub returns-clause-device : goal.returns-clause-device
returns-clause-device g c =
    both_done g.met.D.ZonedDevice.moments IsCrash (PassedByThreeResets c.args.first c.args.second c.args.third) synced
    c.in_ok-sync.ensures.device (λ failed. cc) c.in_ok-sync.ensures.image c.reset_three.ensures.device

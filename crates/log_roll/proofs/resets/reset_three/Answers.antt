use Rattle.zone_image.specs.Changes.{emptied}
use Rattle.zone_image.specs.Moments.{PassedByReset}
use Rattle.log_roll.specs.Resets.{PassedByTwoResets}
use Rattle.zoned_device.proofs.DeviceLaws.{both_done}
use Rattle.log_roll.proofs.resets.reset_three.Goals as goal

pub returns-clause-device : goal.returns-clause-device
returns-clause-device g c =
    both_done g.met.D.ZonedDevice.moments (λ i. PassedByReset i c.args.first) (PassedByTwoResets c.args.second c.args.third) (λ i. emptied i c.args.first)
    c.in_ok-reset.ensures.device (λ failed. cc) c.in_ok-reset.ensures.image c.reset_two.ensures.device

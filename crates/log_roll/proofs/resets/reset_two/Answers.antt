use Rattle.zone_image.specs.Changes.{emptied}
use Rattle.zone_image.specs.Moments.{PassedByReset}
use Rattle.zoned_device.proofs.DeviceLaws.{both_done}
use Rattle.log_roll.proofs.resets.reset_two.Goals as goal

pub returns-clause-device : goal.returns-clause-device
returns-clause-device g c =
    both_done g.met.D.ZonedDevice.moments (λ i. PassedByReset i c.args.first) (λ i. PassedByReset i c.args.second) (λ i. emptied i c.args.first)
    c.in_ok-reset.ensures.device (λ failed. cc) c.in_ok-reset.ensures.image c.reset-2.ensures.device

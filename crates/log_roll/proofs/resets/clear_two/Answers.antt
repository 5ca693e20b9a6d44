use Rattle.log_roll.proofs.KeptData.{both_kept}
use Rattle.zone_image.specs.Changes.{emptied}
use Rattle.zone_image.specs.Moments.{PassedByReset}
use Rattle.zoned_device.proofs.DeviceLaws.{both_done}
use Rattle.log_roll.proofs.resets.clear_two.Goals as goal

pub returns-clause-data_kept : goal.returns-clause-data_kept
returns-clause-data_kept g c = λ one two. both_kept (c.in_ok-clear.ensures.data_kept one) (c.clear-2.ensures.data_kept two)

pub returns-clause-device : goal.returns-clause-device
returns-clause-device g c =
    both_done g.met.D.ZonedDevice.moments (λ i. PassedByReset i c.args.first) (λ i. PassedByReset i c.args.second) (λ i. emptied i c.args.first)
    c.in_ok-clear.ensures.device (λ failed. cc) c.in_ok-clear.ensures.image c.clear-2.ensures.device

use Rattle.log_roll.proofs.KeptData.{both_kept}
use Rattle.zone_image.specs.Image.{IsCrash}
use Rattle.zone_image.specs.Changes.{synced}
use Rattle.log_roll.specs.Resets.{PassedByTwoResets}
use Rattle.zoned_device.proofs.DeviceLaws.{both_done}
use Rattle.log_roll.proofs.roll_steps.start_roll.Goals as goal

pub returns-clause-data_kept : goal.returns-clause-data_kept
returns-clause-data_kept g c = λ one two. both_kept c.sync.ensures.data_kept (c.clear_two.ensures.data_kept one two)

pub returns-clause-device : goal.returns-clause-device
returns-clause-device g c =
    both_done g.met.D.ZonedDevice.moments (λ i. IsCrash i) (PassedByTwoResets c.args.first c.args.second) synced
    c.in_ok-sync.ensures.device (λ failed. cc) c.in_ok-sync.ensures.image c.clear_two.ensures.device

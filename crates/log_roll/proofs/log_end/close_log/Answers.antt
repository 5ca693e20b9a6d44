use Rattle.zone_image.specs.Moments.{PassedByFinish}
use Rattle.log_roll.specs.Rolling.{PassedByEnd, ended}
use Rattle.zoned_device.proofs.DeviceLaws.{both_done}
use Rattle.log_roll.proofs.KeptData.{both_kept}
use Rattle.log_roll.proofs.log_end.close_log.Goals as goal

pub returns-clause-device : goal.returns-clause-device
returns-clause-device g c =
    both_done g.met.D.ZonedDevice.moments (PassedByEnd c.args.can_end c.args.zone) (λ i. PassedByFinish i c.args.zone) (ended c.args.can_end c.args.zone)
    c.in_ok-end_log.ensures.device (λ failed. cc) c.in_ok-end_log.ensures.image c.seal.ensures.device

pub returns-clause-data_kept : goal.returns-clause-data_kept
returns-clause-data_kept g c = λ below. both_kept (c.in_ok-end_log.ensures.data_kept below) (c.seal.ensures.data_kept below)

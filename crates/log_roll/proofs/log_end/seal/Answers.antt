use Rattle.std.proofs.Common.{inl, subst}
use Rattle.zone_image.specs.Moments.{PassedByFinish}
use Rattle.zoned_device.proofs.DeviceLaws.{done_then}
use Rattle.log_roll.proofs.KeptData.{both_kept}
use Rattle.log_roll.proofs.log_end.seal.Goals as goal

pub returns-clause-device : goal.returns-clause-device
returns-clause-device g c =
    let D = g.D.ZonedDevice in
    let dev = c.args.dev.now in
    done_then g.met.D.ZonedDevice.moments (PassedByFinish (D.image dev) c.args.zone) c.in_ok-info.ensures.device (λ failed. cc) c.seal_with.ensures.device
    (λ j told crash. inl crash) (λ j told passed. subst (λ i. PassedByFinish i c.args.zone j) (c.report.ensures.image told) passed)

pub returns-clause-data_kept : goal.returns-clause-data_kept
returns-clause-data_kept g c = λ below. both_kept c.report.ensures.data_kept (c.seal_with.ensures.data_kept below)

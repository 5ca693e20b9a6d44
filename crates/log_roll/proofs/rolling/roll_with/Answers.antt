use Rattle.std.proofs.Common.{length}
use Rattle.log_roll.specs.RollLeaves.{LeftByRoll}
use Rattle.zoned_device.proofs.DeviceLaws.{done_as, nothing_done}
use Rattle.log_roll.proofs.RollCrash.{crash_is_old}
use Rattle.log_roll.proofs.RollMoments.{refusal_is_no_fault}
use Rattle.log_roll.proofs.KeptData.{kept_same}
use Rattle.log_roll.proofs.rolling.roll_with.Goals as goal

pub returns-in-Err-clause-device : goal.returns-in-Err-clause-device
returns-in-Err-clause-device g c =
    let D = g.D.ZonedDevice in
    let dev = c.args.dev.now in
    done_as g.met.D.ZonedDevice.moments _ (LeftByRoll c.args.old.now c.args.snapshot.now (D.image dev))
    (nothing_done g.met.D.ZonedDevice.moments dev (LeftByRoll c.args.old.now c.args.snapshot.now (D.image dev)) c.requires.is_known (λ j crash. crash_is_old c.args.old.now c.args.snapshot.now (D.image dev) j crash))
    (λ none. absurd none) (λ fault. refusal_is_no_fault c.args.geometry.now c.args.old.now (length c.args.snapshot.now) c.in-Err.why c.in-Err.ensures fault) (λ j told p. p)

pub returns-in-Err-clause-data_kept : goal.returns-in-Err-clause-data_kept
returns-in-Err-clause-data_kept g c = kept_same c.args.dev.now

use Rattle.std.proofs.Common.{inl, length}
use Rattle.zoned_device.proofs.DeviceLaws.{done_as, nothing_done}
use Rattle.log_roll.proofs.RollMoments.{refusal_is_no_fault}
use Rattle.log_store.specs.Settling.{LeftBySettling, is_sealed_by}
use Rattle.log_store.proofs.SealedData.{same_blocks}
use Rattle.log_store.proofs.settle.settle_log.Goals as goal

pub returns-in-Err-clause-device : goal.returns-in-Err-clause-device
returns-in-Err-clause-device g c =
    let D = g.D.ZonedDevice in
    let dev = c.args.dev.now in
    let left = LeftBySettling c.args.snapshot.now (D.image dev) in
    done_as g.met.D.ZonedDevice.moments _ left
    (nothing_done g.met.D.ZonedDevice.moments dev left c.requires.is_known (λ j crash. inl crash))
    (λ none. absurd none) (λ fault. refusal_is_no_fault c.args.geometry.now c.args.old.now (length c.args.snapshot.now) c.in-Err.why c.in-Err.ensures fault) (λ j told p. p)

pub returns-in-Err-clause-data_kept : goal.returns-in-Err-clause-data_kept
returns-in-Err-clause-data_kept g c = same_blocks (is_sealed_by c.args.finish) c.args.dev.now

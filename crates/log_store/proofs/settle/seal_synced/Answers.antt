use Rattle.std.proofs.Common.{inl}
use Rattle.zoned_device.proofs.DeviceLaws.{done_as, done_then}
use Rattle.log_store.specs.Settling.{LeftBySeal, is_sealed_by}
use Rattle.log_store.proofs.QuietImages.{seal_leaves}
use Rattle.log_store.proofs.SealedData.{blocks_of_all, blocks_of_both}
use Rattle.log_store.proofs.settle.seal_synced.Goals as goal

pub returns-in-Ok-clause-device : goal.returns-in-Ok-clause-device
returns-in-Ok-clause-device g c =
    let D = g.D.ZonedDevice in
    let i = D.image c.args.dev.now in
    done_then g.met.D.ZonedDevice.moments (LeftBySeal i) c.in-Ok.ensures.device (λ failed. cc) c.seal_any.ensures.device
    (λ j told crash. inl crash) (λ j told passed. seal_leaves i (D.image c.sync.new.dev) j c.args.finish (c.in-Ok.ensures.image told) passed)

pub returns-in-Err-clause-device : goal.returns-in-Err-clause-device
returns-in-Err-clause-device g c =
    done_as g.met.D.ZonedDevice.moments _ (LeftBySeal (g.D.ZonedDevice.image c.args.dev.now)) c.in-Err.ensures.device (λ failed. failed) (λ failed. failed) (λ j told crash. inl crash)

pub returns-in-Ok-clause-data_kept : goal.returns-in-Ok-clause-data_kept
returns-in-Ok-clause-data_kept g c = blocks_of_both (blocks_of_all (is_sealed_by c.args.finish) c.in-Ok.ensures.data_kept) c.seal_any.ensures.data_kept

pub returns-in-Err-clause-data_kept : goal.returns-in-Err-clause-data_kept
returns-in-Err-clause-data_kept g c = blocks_of_all (is_sealed_by c.args.finish) c.in-Err.ensures.data_kept

use Rattle.std.proofs.Common.{subst, sym}
use Rattle.zoned_device.proofs.DeviceLaws.{done_as, nothing_done}
use Rattle.log_store.specs.Settling.{PassedBySeal, is_sealed_by}
use Rattle.log_store.proofs.SealedData.{same_blocks}
use Rattle.log_store.proofs.settle.seal_any.Goals as goal

pub returns-in-None-clause-device : goal.returns-in-None-clause-device
returns-in-None-clause-device g c =
    let i = g.D.ZonedDevice.image c.args.dev.now in
    let passed = PassedBySeal c.args.finish i in
    done_as g.met.D.ZonedDevice.moments _ passed
    (nothing_done g.met.D.ZonedDevice.moments c.args.dev.now passed c.requires.is_known (λ j crash. subst (λ f. PassedBySeal f i j) (sym c.in-None.is) crash))
    (λ none. absurd none) (λ fault. cc) (λ j told p. p)

pub returns-in-None-clause-data_kept : goal.returns-in-None-clause-data_kept
returns-in-None-clause-data_kept g c = same_blocks (is_sealed_by c.args.finish) c.args.dev.now

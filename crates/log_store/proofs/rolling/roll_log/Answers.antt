use Rattle.std.proofs.Common.{◌++◌}
use Rattle.superblock_core.specs.Superblock.{superblock_bytes}
use Rattle.log_model.specs.LogScan.{record_blocks}
use Rattle.log_roll.specs.Rolling.{next_superblock}
use Rattle.zoned_device.proofs.DeviceLaws.{done_as, valid_image}
use Rattle.log_store.specs.RollCalls.{LeftBySnapshot, RestsWithSnapshot}
use Rattle.log_store.proofs.RollCallLaws.{left_by_snapshot, ok_both, rests_with_snapshot}
use Rattle.log_store.proofs.rolling.roll_log.Goals as goal

pub returns-clause-at_rest : goal.returns-clause-at_rest
returns-clause-at_rest g c =
    let D = g.D.ZonedDevice in
    let m = g.met.D.ZonedDevice in
    let i = D.image c.args.dev.now in
    let new = c.roll_with.new.dev in
    let old = c.args.old.now in
    let snapshot = c.args.snapshot.now in
    let block = c.args.geometry.now.block in
    let known = c.roll_with.ensures.device.still_known in
    ok_both _ _ (D.tells → RestsWithSnapshot old snapshot i (D.image new)) c.roll_with.result c.roll_with.ensures.image c.roll_with.ensures.log
    (λ image log told.
    rests_with_snapshot i (D.image new) old snapshot (record_blocks block (superblock_bytes (next_superblock old)) ++ record_blocks block snapshot)
    (record { image = image told; log = log told })
    (valid_image (D.geometry new) (D.infos new) (D.image new) (m.possible new known) (m.told new told known)))

pub returns-clause-device : goal.returns-clause-device
returns-clause-device g c =
    let i = g.D.ZonedDevice.image c.args.dev.now in
    done_as g.met.D.ZonedDevice.moments _ (LeftBySnapshot c.args.snapshot.now i) c.roll_with.ensures.device (λ failed. failed) (λ failed. failed)
    (λ j told left. left_by_snapshot i j c.args.old.now c.args.snapshot.now left)

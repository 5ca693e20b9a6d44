use Rattle.std.proofs.Common.{◌++◌, inr, refl, subst, sym}
use Rattle.zone_image.specs.Image.{Image}
use Rattle.superblock_core.specs.Superblock.{superblock_bytes}
use Rattle.log_model.specs.LogScan.{record_blocks}
use Rattle.log_roll.specs.Rolling.{RefusesAs, next_superblock}
use Rattle.zoned_device.proofs.DeviceLaws.{done_as, done_then, valid_image}
use Rattle.log_store.specs.Settling.{LeftBySettling, MountsAlike, RestsSettled, is_sealed_by}
use Rattle.log_store.proofs.QuietImages.{IsQuiet, quiet_sealed}
use Rattle.log_store.proofs.RollCallLaws.{ok_both}
use Rattle.log_store.proofs.SealedData.{blocks_of_all, blocks_of_both}
use Rattle.log_store.proofs.SettlingLaws.{left_by_roll, log_alike, only_fault, rolled_alike, rolled_rests, sealing_left}
use Rattle.log_store.proofs.settle.settle_allowed.Goals as goal

pub roll_with-requires-clause-selected : goal.roll_with-requires-clause-selected
roll_with-requires-clause-selected g c = λ told.
    let D = g.D.ZonedDevice in
    let i : Image = D.image c.args.dev.now in
    let quiet : IsQuiet i (D.image c.seal_synced.new.dev) = subst (IsQuiet i) (sym (c.in-Ok.ensures.image told)) (quiet_sealed i c.args.finish) in
    log_alike i (D.image c.seal_synced.new.dev) c.args.old.now quiet.same (c.requires.selected told)

pub returns-in-Ok-clause-fault : goal.returns-in-Ok-clause-fault
returns-in-Ok-clause-fault g c =
    only_fault c.roll_with.result (subst (λ r. RefusesAs r c.roll_with.result) c.requires.allowed c.roll_with.ensures.refused) c.roll_with.ensures.no_memory

pub returns-in-Ok-clause-at_rest : goal.returns-in-Ok-clause-at_rest
returns-in-Ok-clause-at_rest g c =
    let D = g.D.ZonedDevice in
    let m = g.met.D.ZonedDevice in
    let i : Image = D.image c.args.dev.now in
    let mid = c.seal_synced.new.dev in
    let new = c.roll_with.new.dev in
    let old = c.args.old.now in
    let snapshot = c.args.snapshot.now in
    let block = c.args.geometry.now.block in
    let known = c.in-Ok.ensures.device.still_known in
    let after = c.roll_with.ensures.device.still_known in
    ok_both _ _ (D.tells → RestsSettled old snapshot i (D.image new)) c.roll_with.result c.roll_with.ensures.image c.roll_with.ensures.log
    (λ image log told.
    rolled_rests i (D.image mid) (D.image new) old snapshot (record_blocks block (superblock_bytes (next_superblock old)) ++ record_blocks block snapshot)
    (subst (IsQuiet i) (sym (c.in-Ok.ensures.image told)) (quiet_sealed i c.args.finish))
    (valid_image (D.geometry mid) (D.infos mid) (D.image mid) (m.possible mid known) (m.told mid told known))
    (record { image = image told; log = log told })
    (valid_image (D.geometry new) (D.infos new) (D.image new) (m.possible new after) (m.told new told after)))

pub returns-in-Ok-clause-alike : goal.returns-in-Ok-clause-alike
returns-in-Ok-clause-alike g c =
    let D = g.D.ZonedDevice in
    let m = g.met.D.ZonedDevice in
    let i : Image = D.image c.args.dev.now in
    let mid = c.seal_synced.new.dev in
    let new = c.roll_with.new.dev in
    let old = c.args.old.now in
    let snapshot = c.args.snapshot.now in
    let block = c.args.geometry.now.block in
    let known = c.in-Ok.ensures.device.still_known in
    ok_both _ _ (D.tells → MountsAlike i snapshot (D.image new)) c.roll_with.result c.roll_with.ensures.image c.roll_with.ensures.log
    (λ image log told.
    rolled_alike i (D.image mid) (D.image new) old snapshot (record_blocks block (superblock_bytes (next_superblock old)) ++ record_blocks block snapshot)
    (subst (IsQuiet i) (sym (c.in-Ok.ensures.image told)) (quiet_sealed i c.args.finish))
    (valid_image (D.geometry mid) (D.infos mid) (D.image mid) (m.possible mid known) (m.told mid told known))
    (record { image = image told; log = log told }))

pub returns-in-Ok-clause-device : goal.returns-in-Ok-clause-device
returns-in-Ok-clause-device g c =
    let D = g.D.ZonedDevice in
    let m = g.met.D.ZonedDevice in
    let i : Image = D.image c.args.dev.now in
    let mid = c.seal_synced.new.dev in
    let old = c.args.old.now in
    let snapshot = c.args.snapshot.now in
    let known = c.in-Ok.ensures.device.still_known in
    done_then m.moments (LeftBySettling snapshot i) c.in-Ok.ensures.device (λ failed. cc) c.roll_with.ensures.device
    (λ j told left. sealing_left i j snapshot left)
    (λ j told left. inr
    (left_by_roll i (D.image mid) old snapshot
    (subst (IsQuiet i) (sym (c.in-Ok.ensures.image told)) (quiet_sealed i c.args.finish))
    (valid_image (D.geometry mid) (D.infos mid) (D.image mid) (m.possible mid known) (m.told mid told known))
    (c.requires.selected told) j left))

pub returns-in-Err-clause-device : goal.returns-in-Err-clause-device
returns-in-Err-clause-device g c =
    let i : Image = g.D.ZonedDevice.image c.args.dev.now in
    done_as g.met.D.ZonedDevice.moments _ (LeftBySettling c.args.snapshot.now i) c.in-Err.ensures.device (λ failed. refl) (λ failed. refl)
    (λ j told left. sealing_left i j c.args.snapshot.now left)

pub returns-in-Ok-clause-data_kept : goal.returns-in-Ok-clause-data_kept
returns-in-Ok-clause-data_kept g c = blocks_of_both c.in-Ok.ensures.data_kept (blocks_of_all (is_sealed_by c.args.finish) c.roll_with.ensures.data_kept)

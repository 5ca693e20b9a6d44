use Rattle.std.proofs.Common.{◌+◌, ◌<◌, ◌++◌, length, ap, arith, subst, sym, ◌∙◌}
use Rattle.zone_image.specs.declared.Geometry.{Geometry}
use Rattle.zone_image.specs.declared.ZoneInfo.{ZoneInfo}
use Rattle.zone_image.specs.Infos.{info_at}
use Rattle.superblock_core.specs.Superblock.{superblock_bytes}
use Rattle.log_model.specs.LogScan.{blocks_of, record_blocks}
use Rattle.log_model.specs.declared.selection.Chosen.{Chosen}
use Rattle.meta_log.proofs.Reading.{block_positive, blocks_positive}
use Rattle.log_roll.specs.Rolling.{next_superblock, next_zone}
use Rattle.log_roll.proofs.Blanking.{ok_then}
use Rattle.zoned_device.proofs.DeviceLaws.{done_as, done_then}
use Rattle.log_roll.proofs.Rolled.{next_is_other}
use Rattle.log_store.specs.RollCalls.{GoesOnRolled, LeftByBoth, RestsRolled}
use Rattle.log_store.proofs.RollCallLaws.{goes_on_rolled, left_before, left_behind, new_info, rests_rolled}
use Rattle.log_roll.proofs.KeptData.{both_kept}
use Rattle.log_store.proofs.rolling.roll_and_add.Goals as goal

pub add_to_new-requires-clause-unsealed : goal.add_to_new-requires-clause-unsealed
add_to_new-requires-clause-unsealed g c =
    let D = g.D.ZonedDevice in
    let old = c.args.old.now in
    let zone = ap (λ (x : Chosen). x.zone) c.in-Ok.ensures.chosen in
    let count = blocks_of c.args.geometry.now.block 512 + blocks_of c.args.geometry.now.block (length c.args.snapshot.now) in
    let info = ap (λ n. info_at (D.infos c.roll_log.new.dev) n) zone ∙ (ap (λ infos. info_at infos (next_zone old.zone)) c.in-Ok.ensures.infos
    ∙ new_info (D.infos c.args.dev.now) (next_zone old.zone) count (next_is_other old.zone c.requires.is_metadata).2) in
    ap (λ (x : ZoneInfo). x.sealed) info

pub add_to_new-requires-clause-some : goal.add_to_new-requires-clause-some
add_to_new-requires-clause-some g c =
    let D = g.D.ZonedDevice in
    let old = c.args.old.now in
    let shape : Geometry = c.args.geometry.now in
    let zone = ap (λ (x : Chosen). x.zone) c.in-Ok.ensures.chosen in
    let count = blocks_of shape.block 512 + blocks_of shape.block (length c.args.snapshot.now) in
    let info = ap (λ n. info_at (D.infos c.roll_log.new.dev) n) zone ∙ (ap (λ infos. info_at infos (next_zone old.zone)) c.in-Ok.ensures.infos
    ∙ new_info (D.infos c.args.dev.now) (next_zone old.zone) count (next_is_other old.zone c.requires.is_metadata).2) in
    let written = ap (λ (x : ZoneInfo). x.written) info in
    let block : 0 < shape.block =
    subst (λ (s : Geometry). 0 < s.block) (sym c.requires.same_geometry) (block_positive (D.geometry c.args.dev.now) (g.met.D.ZonedDevice.possible c.args.dev.now c.requires.is_known).valid) in
    let some : 0 < blocks_of shape.block 512 = blocks_positive shape.block 512 block in
    omega (arith, written, some)

pub add_to_new-requires-clause-room : goal.add_to_new-requires-clause-room
add_to_new-requires-clause-room g c =
    let D = g.D.ZonedDevice in
    let old = c.args.old.now in
    let zone = ap (λ (x : Chosen). x.zone) c.in-Ok.ensures.chosen in
    let count = blocks_of c.args.geometry.now.block 512 + blocks_of c.args.geometry.now.block (length c.args.snapshot.now) in
    let info = ap (λ n. info_at (D.infos c.roll_log.new.dev) n) zone ∙ (ap (λ infos. info_at infos (next_zone old.zone)) c.in-Ok.ensures.infos
    ∙ new_info (D.infos c.args.dev.now) (next_zone old.zone) count (next_is_other old.zone c.requires.is_metadata).2) in
    let written = ap (λ (x : ZoneInfo). x.written) info in
    omega (arith, written, c.requires.room)

pub returns-in-Ok-clause-at_rest : goal.returns-in-Ok-clause-at_rest
returns-in-Ok-clause-at_rest g c =
    let D = g.D.ZonedDevice in
    let i = D.image c.args.dev.now in
    let mid = D.image c.roll_log.new.dev in
    let j = D.image c.add_to_new.new.dev in
    let old = c.args.old.now in
    let snapshot = c.args.snapshot.now in
    let blocks = c.args.added.now.blocks in
    let block = c.args.geometry.now.block in
    let all = record_blocks block (superblock_bytes (next_superblock old)) ++ record_blocks block snapshot in
    ok_then _ (D.tells → RestsRolled old snapshot blocks i j) c.add_to_new.result c.add_to_new.ensures.at_rest
    (λ added told. rests_rolled i mid old snapshot blocks (next_zone old.zone) all (c.in-Ok.ensures.image told) (c.in-Ok.ensures.at_rest told) j (added told))

pub returns-in-Ok-clause-selects : goal.returns-in-Ok-clause-selects
returns-in-Ok-clause-selects g c =
    let D = g.D.ZonedDevice in
    let i = D.image c.args.dev.now in
    let mid = D.image c.roll_log.new.dev in
    let j = D.image c.add_to_new.new.dev in
    let old = c.args.old.now in
    let snapshot = c.args.snapshot.now in
    let blocks = c.args.added.now.blocks in
    let block = c.args.geometry.now.block in
    let all = record_blocks block (superblock_bytes (next_superblock old)) ++ record_blocks block snapshot in
    ok_then _ (D.tells → GoesOnRolled old snapshot blocks i j) c.add_to_new.result c.add_to_new.ensures.selects
    (λ added told.
    goes_on_rolled i mid old snapshot blocks (next_zone old.zone) all (c.in-Ok.ensures.image told) (c.in-Ok.ensures.at_rest told) j c.in-Ok.chosen c.in-Ok.ensures.chosen (added told))

pub returns-in-Ok-clause-device : goal.returns-in-Ok-clause-device
returns-in-Ok-clause-device g c =
    let D = g.D.ZonedDevice in
    let i = D.image c.args.dev.now in
    let mid = D.image c.roll_log.new.dev in
    let old = c.args.old.now in
    let snapshot = c.args.snapshot.now in
    let blocks = c.args.added.now.blocks in
    let block = c.args.geometry.now.block in
    let all = record_blocks block (superblock_bytes (next_superblock old)) ++ record_blocks block snapshot in
    done_then g.met.D.ZonedDevice.moments (LeftByBoth snapshot blocks i) c.in-Ok.ensures.device (λ failed. cc) c.add_to_new.ensures.device
    (λ j told left. left_before i j snapshot blocks left)
    (λ j told left. left_behind i mid old snapshot blocks (next_zone old.zone) all (c.in-Ok.ensures.image told) (c.in-Ok.ensures.at_rest told) j left)

pub returns-in-Err-clause-device : goal.returns-in-Err-clause-device
returns-in-Err-clause-device g c =
    let i = g.D.ZonedDevice.image c.args.dev.now in
    done_as g.met.D.ZonedDevice.moments _ (LeftByBoth c.args.snapshot.now c.args.added.now.blocks i) c.in-Err.ensures.device (λ failed. failed) (λ failed. failed)
    (λ j told left. left_before i j c.args.snapshot.now c.args.added.now.blocks left)

pub returns-in-Ok-clause-data_kept : goal.returns-in-Ok-clause-data_kept
returns-in-Ok-clause-data_kept g c = both_kept c.in-Ok.ensures.data_kept c.add_to_new.ensures.data_kept

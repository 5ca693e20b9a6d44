use Rattle.std.proofs.Common.{◌≡◌, ◌++◌, ℕ, List, Ok, refl, IsTrue, length, ap, sym, subst, ◌∙◌}
use Rattle.zone_image.specs.declared.Geometry.{Geometry}
use Rattle.zone_image.specs.Image.{Image, is_valid}
use Rattle.record_model.specs.declared.types.Record.TheVariants.{Snapshot}
use Rattle.superblock_core.specs.Superblock.{superblock_bytes, superblock_of}
use Rattle.log_model.specs.LogScan.{record_blocks}
use Rattle.log_roll.specs.FormatLeaves.{HasNewLog}
use Rattle.log_roll.specs.Rolling.{next_superblock, next_zone, rolled_image}
use Rattle.log_roll.specs.RollLeaves.{LeftByRoll}
use Rattle.zoned_device.proofs.DeviceLaws.{done_as}
use Rattle.log_roll.proofs.RollMoments.{roll_passed}
use Rattle.log_roll.proofs.RollFacts.{some_payload, short_payload}
use Rattle.log_roll.proofs.Rolled.{next_is_other}
use Rattle.log_roll.proofs.RollSelects.{IsNext, rolled_lone, new_log_selected, told_of_new}
use Rattle.log_roll.proofs.rolling.roll_written.Goals as goal

pub write_roll-requires-clause-some_snapshot : goal.write_roll-requires-clause-some_snapshot
write_roll-requires-clause-some_snapshot g c = some_payload c.args.snapshot.now (Snapshot c.requires.snapshot.files) c.requires.snapshot.reads

pub returns-in-Ok-clause-log : goal.returns-in-Ok-clause-log
returns-in-Ok-clause-log g c = λ told.
    let D = g.D.ZonedDevice in
    let dev = c.args.dev.now in
    let i : Image = D.image dev in
    let old = c.args.old.now in
    let snapshot = c.args.snapshot.now in
    let shape : Geometry = c.args.geometry.now in
    let same : shape ≡ i.geometry = c.requires.same_geometry ∙ sym (g.met.D.ZonedDevice.told dev told c.requires.is_known).shape in
    let possible = g.met.D.ZonedDevice.possible dev c.requires.is_known in
    let valid : IsTrue (is_valid shape) = subst (λ s. IsTrue (is_valid s)) (sym c.requires.same_geometry) possible.valid in
    let superblock = ap superblock_bytes c.next_superblock-superblock.ensures in
    let is : IsNext i old snapshot = record {
      valid = subst (λ s. IsTrue (is_valid s)) same valid;
      below = c.requires.is_metadata;
      selected = c.requires.selected told;
      reads = ap superblock_of (sym (c.encode.ensures.bytes ∙ superblock)) ∙ (c.encode.ensures.reads_back ∙ ap Ok c.next_superblock-superblock.ensures);
      size = ap (λ (bs : List ℕ). length bs) (sym (c.encode.ensures.bytes ∙ superblock)) ∙ c.encode.array_long;
      snapshot_reads = c.requires.snapshot;
      short = short_payload shape (length snapshot) valid c.requires.room;
    } in
    let blocks = record_blocks i.geometry.block (superblock_bytes (next_superblock old)) ++ record_blocks i.geometry.block snapshot in
    let image : D.image c.write_roll.new.dev ≡ rolled_image i (next_zone old.zone) blocks =
    c.in-Ok.ensures.image told
    ∙ (ap (λ bs. rolled_image i (next_zone old.zone) (record_blocks shape.block bs ++ record_blocks shape.block snapshot)) (c.encode.ensures.bytes ∙ superblock)
    ∙ ap (λ (s : Geometry). rolled_image i (next_zone old.zone) (record_blocks s.block (superblock_bytes (next_superblock old)) ++ record_blocks s.block snapshot)) same) in
    subst (λ j. HasNewLog (next_zone old.zone) (next_superblock old) snapshot j) (sym image)
    (new_log_selected i old snapshot is (next_zone old.zone) (rolled_image i (next_zone old.zone) blocks) refl
    (rolled_lone i (next_zone old.zone) blocks (next_is_other old.zone c.requires.is_metadata).2))

pub returns-in-Ok-clause-selects : goal.returns-in-Ok-clause-selects
returns-in-Ok-clause-selects g c = λ told.
    let D = g.D.ZonedDevice in
    let dev = c.args.dev.now in
    let i : Image = D.image dev in
    let old = c.args.old.now in
    let snapshot = c.args.snapshot.now in
    let shape : Geometry = c.args.geometry.now in
    let same : shape ≡ i.geometry = c.requires.same_geometry ∙ sym (g.met.D.ZonedDevice.told dev told c.requires.is_known).shape in
    let possible = g.met.D.ZonedDevice.possible dev c.requires.is_known in
    let valid : IsTrue (is_valid shape) = subst (λ s. IsTrue (is_valid s)) (sym c.requires.same_geometry) possible.valid in
    let superblock = ap superblock_bytes c.next_superblock-superblock.ensures in
    let is : IsNext i old snapshot = record {
      valid = subst (λ s. IsTrue (is_valid s)) same valid;
      below = c.requires.is_metadata;
      selected = c.requires.selected told;
      reads = ap superblock_of (sym (c.encode.ensures.bytes ∙ superblock)) ∙ (c.encode.ensures.reads_back ∙ ap Ok c.next_superblock-superblock.ensures);
      size = ap (λ (bs : List ℕ). length bs) (sym (c.encode.ensures.bytes ∙ superblock)) ∙ c.encode.array_long;
      snapshot_reads = c.requires.snapshot;
      short = short_payload shape (length snapshot) valid c.requires.room;
    } in
    let blocks = record_blocks i.geometry.block (superblock_bytes (next_superblock old)) ++ record_blocks i.geometry.block snapshot in
    let image : D.image c.write_roll.new.dev ≡ rolled_image i (next_zone old.zone) blocks =
    c.in-Ok.ensures.image told
    ∙ (ap (λ bs. rolled_image i (next_zone old.zone) (record_blocks shape.block bs ++ record_blocks shape.block snapshot)) (c.encode.ensures.bytes ∙ superblock)
    ∙ ap (λ (s : Geometry). rolled_image i (next_zone old.zone) (record_blocks s.block (superblock_bytes (next_superblock old)) ++ record_blocks s.block snapshot)) same) in
    let new : HasNewLog (next_zone old.zone) (next_superblock old) snapshot (D.image c.write_roll.new.dev) =
    subst (λ j. HasNewLog (next_zone old.zone) (next_superblock old) snapshot j) (sym image)
    (new_log_selected i old snapshot is (next_zone old.zone) (rolled_image i (next_zone old.zone) blocks) refl
    (rolled_lone i (next_zone old.zone) blocks (next_is_other old.zone c.requires.is_metadata).2)) in
    told_of_new i old snapshot is (D.image c.write_roll.new.dev) new

pub returns-in-Ok-clause-device : goal.returns-in-Ok-clause-device
returns-in-Ok-clause-device g c =
    done_as g.met.D.ZonedDevice.moments _ (LeftByRoll c.args.old.now c.args.snapshot.now (g.D.ZonedDevice.image c.args.dev.now)) c.in-Ok.ensures.device (λ failed. cc) (λ none. cc)
    (λ j told passed.
    let D = g.D.ZonedDevice in
    let dev = c.args.dev.now in
    let i : Image = D.image dev in
    let old = c.args.old.now in
    let snapshot = c.args.snapshot.now in
    let shape : Geometry = c.args.geometry.now in
    let same : shape ≡ i.geometry = c.requires.same_geometry ∙ sym (g.met.D.ZonedDevice.told dev told c.requires.is_known).shape in
    let possible = g.met.D.ZonedDevice.possible dev c.requires.is_known in
    let valid : IsTrue (is_valid shape) = subst (λ s. IsTrue (is_valid s)) (sym c.requires.same_geometry) possible.valid in
    let superblock = ap superblock_bytes c.next_superblock-superblock.ensures in
    let is : IsNext i old snapshot = record {
      valid = subst (λ s. IsTrue (is_valid s)) same valid;
      below = c.requires.is_metadata;
      selected = c.requires.selected told;
      reads = ap superblock_of (sym (c.encode.ensures.bytes ∙ superblock)) ∙ (c.encode.ensures.reads_back ∙ ap Ok c.next_superblock-superblock.ensures);
      size = ap (λ (bs : List ℕ). length bs) (sym (c.encode.ensures.bytes ∙ superblock)) ∙ c.encode.array_long;
      snapshot_reads = c.requires.snapshot;
      short = short_payload shape (length snapshot) valid c.requires.room;
    } in
    roll_passed shape (D.geometry dev) (D.infos dev) i old snapshot c.encode.new.out c.requires.same_geometry possible (g.met.D.ZonedDevice.told dev told c.requires.is_known) is
    (c.encode.ensures.bytes ∙ superblock) c.requires.room j passed)

pub returns-in-Err-clause-device : goal.returns-in-Err-clause-device
returns-in-Err-clause-device g c =
    done_as g.met.D.ZonedDevice.moments _ (LeftByRoll c.args.old.now c.args.snapshot.now (g.D.ZonedDevice.image c.args.dev.now)) c.in-Err.ensures.device (λ failed. refl) (λ failed. refl)
    (λ j told passed.
    let D = g.D.ZonedDevice in
    let dev = c.args.dev.now in
    let i : Image = D.image dev in
    let old = c.args.old.now in
    let snapshot = c.args.snapshot.now in
    let shape : Geometry = c.args.geometry.now in
    let same : shape ≡ i.geometry = c.requires.same_geometry ∙ sym (g.met.D.ZonedDevice.told dev told c.requires.is_known).shape in
    let possible = g.met.D.ZonedDevice.possible dev c.requires.is_known in
    let valid : IsTrue (is_valid shape) = subst (λ s. IsTrue (is_valid s)) (sym c.requires.same_geometry) possible.valid in
    let superblock = ap superblock_bytes c.next_superblock-superblock.ensures in
    let is : IsNext i old snapshot = record {
      valid = subst (λ s. IsTrue (is_valid s)) same valid;
      below = c.requires.is_metadata;
      selected = c.requires.selected told;
      reads = ap superblock_of (sym (c.encode.ensures.bytes ∙ superblock)) ∙ (c.encode.ensures.reads_back ∙ ap Ok c.next_superblock-superblock.ensures);
      size = ap (λ (bs : List ℕ). length bs) (sym (c.encode.ensures.bytes ∙ superblock)) ∙ c.encode.array_long;
      snapshot_reads = c.requires.snapshot;
      short = short_payload shape (length snapshot) valid c.requires.room;
    } in
    roll_passed shape (D.geometry dev) (D.infos dev) i old snapshot c.encode.new.out c.requires.same_geometry possible (g.met.D.ZonedDevice.told dev told c.requires.is_known) is
    (c.encode.ensures.bytes ∙ superblock) c.requires.room j passed)

-- The log that is selected after a roll.
use Rattle.std.specs.Prelude.{◌≡◌, ◌≢◌, ℕ, zero, suc, ◌+◌, ◌^◌, ◌<◌, ◌≤◌, true, false, not, ◌&&◌, ◌||◌, List, [], ◌++◌, length, Ok, IsTrue, refl}
use Rattle.std.specs.Str.{bytes_eq}
use Rattle.std.proofs.Common.{◌∙◌, ap, sym, subst, arith}
use Rattle.std.proofs.lemmas.Grind.{common_steps}
use Rattle.zone_image.specs.declared.Geometry.{Geometry}
use Rattle.zone_image.specs.Image.{Image, is_valid, zone_at}
use Rattle.record_model.specs.Numbers.{u32}
use Rattle.record_model.specs.declared.types.Record.TheVariants.{Snapshot}
use Rattle.superblock_core.specs.Superblock.{superblock_bytes, superblock_of}
use Rattle.log_model.specs.declared.selection.Chosen.{Chosen}
use Rattle.log_model.specs.LogScan.{blocks_of, record_blocks}
use Rattle.log_model.specs.ScanLaws.{IsRecordOf}
use Rattle.log_model.specs.LogSelection.{fits_device, selected_log, chosen_of}
use Rattle.record_model.specs.FieldDecoding.{◌>>=◌}
use Rattle.log_roll.specs.FormatLeaves.{HasNewLog}
use Rattle.log_roll.specs.Rolling.{IsSnapshot, next_chosen, next_superblock, next_zone, rolled_image}
use Rattle.log_roll.proofs.LoneLogs.{IsLone, IsSuperblock, lone_log}
use Rattle.log_roll.proofs.RollFacts.{some_payload}
use Rattle.log_roll.proofs.SelectedFacts.{Selection, selection_of, selected_fits, long_is_no_end, snapshot_is_no_end}

-- after a roll one metadata zone has blocks
pub rolled_lone : (i : Image) (zone : ℕ) (blocks : List (List ℕ)) → zone < 3 → IsLone zone blocks (rolled_image i zone blocks)
rolled_lone i zero blocks below = record {
  metadata = below;
  here = refl;
  others = λ m less differs. rest m less differs;
}
  where
    rest : (m : ℕ) → m < 3 → m ≢ 0 → (zone_at (rolled_image i 0 blocks) m).blocks ≡ []
    rest zero less differs = absurd (differs refl)
    rest (suc zero) less differs = refl
    rest (suc (suc zero)) less differs = refl
    rest (suc (suc (suc n))) less differs = absurd (omega arith)
rolled_lone i (suc zero) blocks below = record {
  metadata = below;
  here = refl;
  others = λ m less differs. rest m less differs;
}
  where
    rest : (m : ℕ) → m < 3 → m ≢ 1 → (zone_at (rolled_image i 1 blocks) m).blocks ≡ []
    rest zero less differs = refl
    rest (suc zero) less differs = absurd (differs refl)
    rest (suc (suc zero)) less differs = refl
    rest (suc (suc (suc n))) less differs = absurd (omega arith)
rolled_lone i (suc (suc zero)) blocks below = record {
  metadata = below;
  here = refl;
  others = λ m less differs. rest m less differs;
}
  where
    rest : (m : ℕ) → m < 3 → m ≢ 2 → (zone_at (rolled_image i 2 blocks) m).blocks ≡ []
    rest zero less differs = refl
    rest (suc zero) less differs = refl
    rest (suc (suc zero)) less differs = absurd (differs refl)
    rest (suc (suc (suc n))) less differs = absurd (omega arith)
rolled_lone i (suc (suc (suc n))) blocks below = absurd (omega arith)

-- a block holds a record's head
pub head_fits : (g : Geometry) → IsTrue (is_valid g) → 8 ≤ g.block
head_fits g valid = grind (arith, common_steps)

-- what makes the new log one that is selected
pub record IsNext (i : Image) (old : Chosen) (snapshot : List ℕ) : Type 0 where
  pub valid : IsTrue (is_valid i.geometry)
  pub below : old.zone < 3
  pub selected : selected_log i ≡ Ok old
  pub reads : superblock_of (superblock_bytes (next_superblock old)) ≡ Ok (next_superblock old)
  pub size : length (superblock_bytes (next_superblock old)) ≡ 512
  pub snapshot_reads : IsSnapshot snapshot
  pub short : length snapshot < 2 ^ 32

module _ (i : Image) (old : Chosen) (snapshot : List ℕ) (is : IsNext i old snapshot) where
  -- the new superblock is one of this device
  pub next_superblock_is : IsSuperblock i.geometry (superblock_bytes (next_superblock old)) (next_superblock old)
  next_superblock_is = record {
    fits = (head_fits i.geometry is.valid, omega (arith, is.size), omega (arith, is.size));
    size = is.size;
    reads = is.reads;
    device =
        let s : Selection i old = selection_of i old is.selected in
        ap (λ (c : Chosen). fits_device i.geometry c.superblock) (sym s.told) ∙ selected_fits i s.log s.greatest s.selected;
  }

  pub snapshot_is : IsRecordOf i.geometry.block snapshot
  snapshot_is = (head_fits i.geometry is.valid, omega (arith, some_payload snapshot (Snapshot is.snapshot_reads.files) is.snapshot_reads.reads), is.short)

  -- an image of the same geometry whose only metadata are the new log's
  pub new_log_selected : (zone : ℕ) (j : Image) → j.geometry ≡ i.geometry
      → IsLone zone (record_blocks i.geometry.block (superblock_bytes (next_superblock old)) ++ record_blocks i.geometry.block snapshot) j
      → HasNewLog zone (next_superblock old) snapshot j
  new_log_selected zone j same lone_zone =
      record {
        selected = lone_log zone j (superblock_bytes (next_superblock old)) snapshot (next_superblock old) is.snapshot_reads.files
            (subst (λ g. IsSuperblock g (superblock_bytes (next_superblock old)) (next_superblock old)) (sym same) next_superblock_is)
            (subst (λ (g : Geometry). IsRecordOf g.block snapshot) (sym same) snapshot_is) is.snapshot_reads.reads
            (subst (λ (g : Geometry). IsLone zone (record_blocks g.block (superblock_bytes (next_superblock old)) ++ record_blocks g.block snapshot) j) (sym same) lone_zone);
      }

  -- what is told of the new log
  pub told_of_new : (j : Image) → HasNewLog (next_zone old.zone) (next_superblock old) snapshot j → selected_log j ≡ Ok (next_chosen old)
  told_of_new j new =
      let n : ℕ = blocks_of j.geometry.block (length (superblock_bytes (next_superblock old))) in
      let ends : (bytes_eq (superblock_bytes (next_superblock old)) (u32 4) || (bytes_eq snapshot (u32 4) || false)) ≡ false =
      ap (λ b. b || (bytes_eq snapshot (u32 4) || false)) (long_is_no_end (superblock_bytes (next_superblock old)) is.size)
      ∙ ap (λ b. false || (b || false)) (snapshot_is_no_end snapshot is.snapshot_reads.files is.snapshot_reads.reads) in
      ap (λ r. r >>= (λ l. Ok (chosen_of l))) new.selected
      ∙ ap (λ b. Ok (record { zone = next_zone old.zone; superblock = next_superblock old; greatest = old.greatest + 1; can_end = true && not b })) ends

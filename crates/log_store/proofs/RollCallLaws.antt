-- A roll of the log of an image at rest, and a record that follows it.
use Rattle.std.specs.Prelude.{◌≡◌, ℕ, zero, suc, ◌+◌, ◌<◌, false, List, drop, Result, Ok, Err, OnOk, refl}
use Rattle.std.proofs.Common.{◌∙◌, ap, sym, subst, ⊎_elim, inl, inr, arith}
use Rattle.zone_image.specs.declared.Geometry.{Geometry}
use Rattle.zone_image.specs.declared.ZoneInfo.{ZoneInfo}
use Rattle.zone_image.specs.Image.{Image}
use Rattle.zone_image.specs.Infos.{IsValidImage, info_at}
use Rattle.record_model.specs.Decoding.{record_of}
use Rattle.record_model.specs.declared.types.Record.TheVariants.{Snapshot}
use Rattle.log_model.specs.declared.selection.Chosen.{Chosen}
use Rattle.log_model.specs.LogScan.{record_blocks}
use Rattle.log_model.specs.LogSelection.{LogAt}
use Rattle.log_model.specs.FileTable.{Table}
use Rattle.log_model.proofs.DecodedNames.{replay_makes_table}
use Rattle.log_model.proofs.ReplayedSizes.{replayed_sizes_are_right}
use Rattle.crash_cover.specs.SameData.{HaveSameData}
use Rattle.crash_cover.specs.AtRest.{IsAtRest, with_record}
use Rattle.crash_cover.proofs.PinnedTables.{pinned_is_kept}
use Rattle.crash_cover.proofs.RestLaws.{avoids_nothing}
use Rattle.log_roll.specs.RollLeaves.{LeftByRoll}
use Rattle.log_roll.specs.Rolling.{next_chosen, rolled_image, rolled_infos}
use Rattle.log_store.specs.Adding.{GoesOn, LeftByRecord, MakesTable, RestsWithRecord}
use Rattle.log_store.specs.RollRest.{IsRolled, IsSnapshotOf, new_log}
use Rattle.log_store.specs.RollCalls.{GoesOnRolled, LeftByBoth, LeftBySnapshot, MakesBehind, RestsRolled, RestsWithSnapshot}
use Rattle.log_store.proofs.DataZones.{recovers_before}
use Rattle.log_store.proofs.RollLaws.{roll_is_at_rest, roll_moment_recovers, rolled_data}

-- two facts of an answer that is an Ok give a third
pub ok_both : {T E : Type 0} (A B C : Type 0) (r : Result T E) → OnOk r A → OnOk r B → (A → B → C) → OnOk r C
ok_both A B C (Ok x) a b f = f a b
ok_both A B C (Err e) a b f = tt

-- a roll leaves the image at rest
pub rests_with_snapshot : (i j : Image) (old : Chosen) (snapshot : List ℕ) (blocks : List (List ℕ)) → IsRolled old snapshot blocks i j → IsValidImage j → RestsWithSnapshot old snapshot i j
rests_with_snapshot i j old snapshot blocks rolled valid log greatest es next takes =
    roll_is_at_rest i j log greatest old snapshot blocks es next takes.rest takes.snapshot_of takes.pinned rolled valid

-- a crash within it leaves the one table or the other
pub left_by_snapshot : (i j : Image) (old : Chosen) (snapshot : List ℕ) → LeftByRoll old snapshot i j → LeftBySnapshot snapshot i j
left_by_snapshot i j old snapshot left log greatest es next takes = roll_moment_recovers i j log greatest old snapshot es next takes.rest takes.snapshot_of takes.pinned left

-- the zone of the new log has its blocks alone
pub new_info : (infos : List ZoneInfo) (zone count : ℕ) → zone < 3 → info_at (rolled_infos infos zone count) zone ≡ record { written = count; sealed = false }
new_info infos zero count below = refl
new_info infos (suc zero) count below = refl
new_info infos (suc (suc zero)) count below = refl
new_info infos (suc (suc (suc n))) count below = absurd (omega arith)

-- the snapshot of the table that an image has at rest
snapshot_of_rest : (i : Image) (log : LogAt) (greatest : ℕ) (snapshot : List ℕ) (es : Table) → IsAtRest i log greatest es → record_of snapshot ≡ Ok (Snapshot es) → IsSnapshotOf snapshot es
snapshot_of_rest i log greatest snapshot es rest reads = record {
  reads = reads;
  table = replay_makes_table (drop 1 log.scan.payloads) es rest.table.table;
  sized = replayed_sizes_are_right (drop 1 log.scan.payloads) es rest.table.table;
}

-- what a roll makes of an image
module _ (i mid : Image) (old : Chosen) (snapshot : List ℕ) (blocks : List (List ℕ)) (zone : ℕ) (all : List (List ℕ)) (image : mid ≡ rolled_image i zone all) (rests : RestsWithSnapshot old snapshot i mid) where
  -- its data zones have the same blocks
  same_data : IsValidImage i → HaveSameData (λ _. false) i mid
  same_data valid = subst (HaveSameData (λ _. false) i) (sym image) (rolled_data i zone all valid)

  -- a record makes the same table behind it
  makes_in_new : (log : LogAt) (greatest : ℕ) (payload : List ℕ) (es next : Table) → MakesBehind i log greatest snapshot blocks payload es next
      → MakesTable mid (new_log mid.geometry old snapshot) (old.greatest + 1) blocks payload es next
  makes_in_new log greatest payload es next behind =
      let makes = behind.makes in
      let same = same_data makes.rest.valid in
      record {
        rest =
            rests log greatest es es
            (record { rest = makes.rest; snapshot_of = snapshot_of_rest i log greatest snapshot es makes.rest behind.reads; pinned = makes.rest.pinned });
        spelled = makes.spelled ∙ ap (λ (g : Geometry). record_blocks g.block payload) (sym same.geometry);
        short = makes.short;
        change = makes.change;
        reads = makes.reads;
        goes_on = makes.goes_on;
        after = makes.after;
        pinned = pinned_is_kept (λ _. false) i mid next same (avoids_nothing i next) makes.pinned;
      }

  -- once it is added the image is at rest with it
  pub rests_rolled : (j : Image) → RestsWithRecord blocks mid j → RestsRolled old snapshot blocks i j
  rests_rolled j added log greatest payload es next behind =
      let new : LogAt = new_log mid.geometry old snapshot in
      (with_record mid new payload, added new (old.greatest + 1) payload es next (makes_in_new log greatest payload es next behind))

  -- and the new log counts
  pub goes_on_rolled : (j : Image) (chosen : Chosen) → chosen ≡ next_chosen old → GoesOn chosen blocks mid j → GoesOnRolled old snapshot blocks i j
  goes_on_rolled j chosen is added log greatest payload es next behind =
      added (new_log mid.geometry old snapshot) (old.greatest + 1) payload es next (makes_in_new log greatest payload es next behind) ∙ ap (λ c. Ok c) is

  -- a crash while it is added leaves the one table or the other
  pub left_behind : (j : Image) → LeftByRecord blocks mid j → LeftByBoth snapshot blocks i j
  left_behind j left log greatest payload es next behind =
      let makes = behind.makes in
      let same = same_data makes.rest.valid in
      ⊎_elim
      (λ before. inl (recovers_before (λ _. false) i mid j es same (avoids_nothing i es) makes.rest.valid makes.rest.pinned before))
      (λ after. inr (recovers_before (λ _. false) i mid j next same (avoids_nothing i next) makes.rest.valid makes.pinned after))
      (left (new_log mid.geometry old snapshot) (old.greatest + 1) payload es next (makes_in_new log greatest payload es next behind))

-- a crash while the log is rolled leaves the table
pub left_before : (i j : Image) (snapshot : List ℕ) (blocks : List (List ℕ)) → LeftBySnapshot snapshot i j → LeftByBoth snapshot blocks i j
left_before i j snapshot blocks left log greatest payload es next behind =
    let rest = behind.makes.rest in
    ⊎_elim (λ same. inl same) (λ same. inl same)
    (left log greatest es es (record { rest = rest; snapshot_of = snapshot_of_rest i log greatest snapshot es rest behind.reads; pinned = rest.pinned }))

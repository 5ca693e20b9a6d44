-- What a roll makes of an image of which nothing is pending, where its snapshot is that of the mounted table without recovery points.
use Rattle.std.specs.Prelude.{◌≡◌, ℕ, ◌+◌, true, false, List, [], ◌∷◌, drop, map, Option, Some, None, Result, Ok, Err, IfErr, IsErrOf, IsOk, refl}
use Rattle.std.proofs.Common.{◌∙◌, ap, sym, subst, ⊎_elim, inl, inr, arith}
use Rattle.std.proofs.lemmas.Bool.{and_parts}
use Rattle.std.specs.List.{AllByRecursion, list_all}
use Rattle.zone_image.specs.Image.{Image}
use Rattle.zone_image.specs.Infos.{IsValidImage}
use Rattle.record_model.specs.FieldDecoding.{◌>>=◌}
use Rattle.record_model.specs.declared.types.Extent.{Extent}
use Rattle.record_model.specs.declared.types.Record.TheVariants.{Snapshot}
use Rattle.log_model.specs.declared.selection.Chosen.{Chosen}
use Rattle.log_model.specs.declared.selection.DamageWhy.{DamageWhy}
use Rattle.log_model.specs.LogSelection.{LogAt, scans_of, select_log, selected_log}
use Rattle.log_model.specs.FileTable.{Table, replay_log}
use Rattle.log_model.specs.FileTree.{Tree}
use Rattle.log_model.specs.Mounted.{MountsTo, all_extents, broken_rule, checked_table, in_zone, is_written, mounted_in, recovered_entry, table_in, table_of, tree_of}
use Rattle.log_model.specs.MountLaws.{HaveSameBlocks}
use Rattle.log_model.specs.MountedLogLaws.{HasTable, MountsTable}
use Rattle.log_model.proofs.BlockLaws.{mount_reads_blocks}
use Rattle.log_model.proofs.CrashLaws.{durable_zone_stays}
use Rattle.log_model.proofs.DecodedNames.{replay_makes_table}
use Rattle.log_model.proofs.MountedLogLaws.{selected_table_mounts}
use Rattle.log_model.proofs.ReplayedSizes.{replayed_sizes_are_right}
use Rattle.log_model.proofs.SelectedLog.{ok_is, went_on}
use Rattle.crash_cover.specs.AtRest.{IsAtRest}
use Rattle.crash_cover.specs.SameData.{HaveSameData}
use Rattle.crash_cover.proofs.RestLaws.{avoids_nothing, same_selected}
use Rattle.crash_cover.proofs.SameData.{data_decides_table}
use Rattle.log_roll.specs.FormatLeaves.{HasLogs, HasNewLog}
use Rattle.log_roll.specs.RollLeaves.{LeftByRoll, RollLeaves}
use Rattle.log_roll.specs.Rolling.{RefusesAs, next_superblock, next_zone}
use Rattle.log_roll.specs.declared.roll_error.RollError.{RollError}
use Rattle.log_roll.specs.declared.roll_error.RollError.TheVariants.{SequenceEnd, MetaFull, DevFault, NoMemory}
use Rattle.log_store.specs.RollRest.{IsRolled, IsSnapshotOf, new_log}
use Rattle.log_store.specs.Settled.{IsSettled, settled, without_point}
use Rattle.log_store.specs.Settling.{LeftBySeal, LeftBySettling, MountsAlike, RestsSettled, Settles}
use Rattle.log_store.proofs.DataZones.{IsThere, found_tree, same_data}
use Rattle.log_store.proofs.QuietImages.{IsQuiet, quiet_crash, quiet_data}
use Rattle.log_store.proofs.RollLaws.{kept_table, new_table, rolled_at_rest, rolled_data}
use Rattle.log_store.proofs.SettledTables.{settled_unbroken, unbroken_written}

-- images with the same blocks mount to the same tree
pub blocks_alike : (i j : Image) (snapshot : List ℕ) → HaveSameBlocks i j → MountsAlike i snapshot j
blocks_alike i j snapshot same es settles t mounts = sym (mount_reads_blocks i j same).tree ∙ mounts

-- what a crash within a sync and a finish leaves
pub sealing_left : (i j : Image) (snapshot : List ℕ) → LeftBySeal i j → LeftBySettling snapshot i j
sealing_left i j snapshot left = ⊎_elim (λ crash. inl crash) (λ same. inr (blocks_alike i j snapshot same)) left

-- a log that is read has what it is read as
in_zone_is : (zone : ℕ) (r : Result Table (ℕ × DamageWhy)) (es : Table) → in_zone zone r ≡ Ok es → r ≡ Ok es
in_zone_is zone (Ok x) es h = ap (λ t. Ok t) (ok_is h)
in_zone_is zone (Err fault) es h = cc

-- a table that is checked breaks no rule
checked_is : (s : Image) (log : LogAt) (recorded : Table) (rule : Option ℕ) (es : Table) → checked_table s log recorded rule ≡ Ok es
    → (rule ≡ None) × (map (recovered_entry s) recorded ≡ es)
checked_is s log recorded None es h = (refl, ok_is h)
checked_is s log recorded (Some rule) es h = cc

-- where a table comes from that is mounted
record IsRecorded (s : Image) (es : Table) : Type 0 where
  log : LogAt
  greatest : ℕ
  recorded : Table
  has : HasTable s log greatest recorded
  unbroken : broken_rule s recorded ≡ None
  found : map (recovered_entry s) recorded ≡ es

recorded_of : (s : Image) (es : Table) → table_in s ≡ Ok es → IsRecorded s es
unfolding table_in table_of
recorded_of s es h =
    let selected = went_on (select_log s.geometry (scans_of s)) (λ (l : LogAt × ℕ). table_of s l.0) es h in
    let log : LogAt = selected.0.0 in
    let replayed = went_on (in_zone log.zone (replay_log (drop 1 log.scan.payloads))) (λ (t : Table). checked_table s log t (broken_rule s t)) es selected.2 in
    let checked = checked_is s log replayed.0 (broken_rule s replayed.0) es replayed.2 in
    record {
      log = log;
      greatest = selected.0.1;
      recorded = replayed.0;
      has = record { selected = selected.1; table = in_zone_is log.zone (replay_log (drop 1 log.scan.payloads)) replayed.0 replayed.1 };
      unbroken = checked.0;
      found = checked.1;
    }

-- written extents are there
all_there : (s : Image) (xs : List Extent) → list_all (is_written s) xs ≡ true → AllByRecursion (IsThere (λ _. false) s) xs
all_there s [] h = tt
all_there s (x ∷ xs) h = let parts = and_parts (is_written s x) (list_all (is_written s) xs) h in (record { written = parts.0; away = refl }, all_there s xs parts.1)

-- a log over the same data mounts to the tree of its table
mounts_over : (s j : Image) (log : LogAt) (greatest : ℕ) (table : Table) → IsValidImage s → HaveSameData (λ _. false) s j → HasTable j log greatest table → broken_rule s table ≡ None
    → mounted_in j ≡ Ok (tree_of s (map (recovered_entry s) table))
mounts_over s j log greatest table valid same has none =
    let away = avoids_nothing s table in
    let mounts : MountsTable j table = selected_table_mounts j log greatest table has ((data_decides_table (λ _. false) s j table same away).rule ∙ none) in
    mounts.tree ∙ ap (λ t. Ok t) (found_tree (λ _. false) s j same table valid away (all_there s (all_extents table) (unbroken_written s table none)))

-- the tree of a mounted table
tree_is : (s : Image) (es : Table) (t : Tree) → table_in s ≡ Ok es → MountsTo s t → tree_of s es ≡ t
unfolding mounted_in
tree_is s es t table mounts = ok_is (sym (ap (λ r. r >>= (λ x. Ok (tree_of s x))) table) ∙ mounts)

-- data that is the same twice is the same
same_through : (s c j : Image) → HaveSameData (λ _. false) s c → HaveSameData (λ _. false) c j → HaveSameData (λ _. false) s j
same_through s c j first second = record {
  geometry = second.geometry ∙ first.geometry;
  blocks = λ n data_zone other. second.blocks n data_zone other ∙ first.blocks n data_zone other;
  kept = λ n data_zone other. omega (arith, first.kept n data_zone other, second.kept n data_zone other);
}

-- the image of a quiet device, with the table that it mounts
module _ (i s : Image) (quiet : IsQuiet i s) (valid : IsValidImage s) (snapshot : List ℕ) (es : Table) (settles : Settles i snapshot es) where
  -- it mounts the same table
  table_there : table_in s ≡ Ok es
  table_there = sym (mount_reads_blocks i s quiet.same).table ∙ settles.mounted

  -- which may be settled
  is_settled : IsSettled s (recorded_of s es table_there).recorded
  is_settled =
      let o = recorded_of s es table_there in
      settled_unbroken s o.recorded valid (replay_makes_table (drop 1 o.log.scan.payloads) o.recorded o.has.table) (replayed_sizes_are_right (drop 1 o.log.scan.payloads) o.recorded o.has.table)
      o.unbroken quiet.durable

  -- the table of the snapshot is the settled one
  settled_is : settled s (recorded_of s es table_there).recorded ≡ map without_point es
  settled_is = ap (λ t. map without_point t) (recorded_of s es table_there).found

  snapshot_is : IsSnapshotOf snapshot (settled s (recorded_of s es table_there).recorded)
  snapshot_is = record { reads = settles.reads ∙ ap (λ t. Ok (Snapshot t)) (sym settled_is); table = is_settled.table; sized = is_settled.sized }

  -- a log with the snapshot over the same data mounts to the same tree
  new_alike : (old : Chosen) (j : Image) → HaveSameData (λ _. false) s j → HasNewLog (next_zone old.zone) (next_superblock old) snapshot j → mounted_in j ≡ Ok (tree_of s es)
  new_alike old j same log =
      let o = recorded_of s es table_there in
      mounts_over s j (new_log j.geometry old snapshot) (next_superblock old).sequence (settled s o.recorded) valid same
      (new_table j old snapshot (settled s o.recorded) snapshot_is log) is_settled.pinned.unbroken
      ∙ ap (λ t. Ok t) (is_settled.mounts ∙ ap (tree_of s) o.found)

  -- so does the old log, behind which an end record may stand
  roll_alike : (old : Chosen) (j : Image) → RollLeaves old snapshot s j → mounted_in j ≡ Ok (tree_of s es)
  roll_alike old j left =
      let o = recorded_of s es table_there in
      let c = left.crashed in
      let same = same_through s c j (quiet_data i s c quiet left.crash) (same_data c j left.data_zones) in
      ⊎_elim
      (λ keeps.
      let has : HasTable c o.log o.greatest o.recorded = record {
        selected = same_selected s c o.log o.greatest left.crash.geometry (λ m less. durable_zone_stays s c m left.crash (quiet.durable m)) o.has.selected;
        table = o.has.table;
      } in
      mounts_over s j (record { zone = keeps.log.zone; superblock = keeps.log.superblock; scan = keeps.scan }) keeps.after o.recorded valid same
      (kept_table c j o.log o.greatest o.recorded keeps has) o.unbroken
      ∙ ap (λ t. Ok (tree_of s t)) o.found)
      (λ new. new_alike old j same new.1)
      left.log

  -- after the roll the image is at rest with the settled table
  settled_rests : (old : Chosen) (j : Image) (blocks : List (List ℕ)) → IsRolled old snapshot blocks s j → IsValidImage j → IsAtRest j (new_log j.geometry old snapshot) (old.greatest + 1) (map without_point es)
  settled_rests old j blocks rolled made =
      subst (IsAtRest j (new_log j.geometry old snapshot) (old.greatest + 1)) settled_is
      (rolled_at_rest s j old snapshot blocks (settled s (recorded_of s es table_there).recorded) valid snapshot_is is_settled.pinned rolled made)

  -- the tree to which the image at entry mounts is that of the table
  same_tree : (t : Tree) → MountsTo i t → tree_of s es ≡ t
  same_tree t mounts = tree_is s es t table_there (sym (mount_reads_blocks i s quiet.same).tree ∙ mounts)

-- the same log counts where the blocks are the same
pub log_alike : (i j : Image) (old : Chosen) → HaveSameBlocks i j → selected_log i ≡ Ok old → selected_log j ≡ Ok old
log_alike i j old same selected = sym (mount_reads_blocks i j same).log ∙ selected

-- so each crash of a quiet image has a log that counts
quiet_has_logs : (i s : Image) (old : Chosen) → IsQuiet i s → selected_log i ≡ Ok old → HasLogs s
quiet_has_logs i s old quiet selected k crash = subst (λ r. IsOk r) (sym (log_alike i k old (quiet_crash i s k quiet crash) selected)) refl

-- what a crash within the roll leaves
pub left_by_roll : (i s : Image) (old : Chosen) (snapshot : List ℕ) → IsQuiet i s → IsValidImage s → selected_log i ≡ Ok old → (j : Image) → LeftByRoll old snapshot s j → MountsAlike i snapshot j
left_by_roll i s old snapshot quiet valid selected j left es settles t mounts =
    roll_alike i s quiet valid snapshot es settles old j (left (quiet_has_logs i s old quiet selected)) ∙ ap (λ x. Ok x) (same_tree i s quiet valid snapshot es settles t mounts)

-- what stands after it mounts alike
pub rolled_alike : (i s j : Image) (old : Chosen) (snapshot : List ℕ) (blocks : List (List ℕ)) → IsQuiet i s → IsValidImage s → IsRolled old snapshot blocks s j → MountsAlike i snapshot j
rolled_alike i s j old snapshot blocks quiet valid rolled es settles t mounts =
    let same : HaveSameData (λ _. false) s j = subst (λ k. HaveSameData (λ _. false) s k) (sym rolled.image) (rolled_data s (next_zone old.zone) blocks valid) in
    new_alike i s quiet valid snapshot es settles old j same rolled.log ∙ ap (λ x. Ok x) (same_tree i s quiet valid snapshot es settles t mounts)

-- and is at rest
pub rolled_rests : (i s j : Image) (old : Chosen) (snapshot : List ℕ) (blocks : List (List ℕ)) → IsQuiet i s → IsValidImage s → IsRolled old snapshot blocks s j → IsValidImage j
    → RestsSettled old snapshot i j
rolled_rests i s j old snapshot blocks quiet valid rolled made es settles = settled_rests i s quiet valid snapshot es settles old j blocks rolled made

-- a roll that isn't refused and takes no memory fails by its device alone
pub only_fault : (r : Result Chosen RollError) → RefusesAs (Ok tt) r → (IsErrOf r NoMemory → ⊥) → IfErr r (λ why. why ≡ DevFault)
only_fault (Ok chosen) allowed memory = tt
only_fault (Err SequenceEnd) allowed memory = absurd (allowed tt)
only_fault (Err (MetaFull need capacity)) allowed memory = absurd (allowed tt)
only_fault (Err DevFault) allowed memory = refl
only_fault (Err NoMemory) allowed memory = absurd (memory refl)

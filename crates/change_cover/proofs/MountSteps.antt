-- Mounting for writing.
use Rattle.std.specs.Prelude.{◌≡◌, ℕ, true, List, [], ◌∷◌, ◌++◌, drop, map, Option, Some, None, Ok, refl}
use Rattle.std.proofs.Common.{◌∙◌, ap, sym, subst}
use Rattle.std.proofs.lemmas.Bool.{and_from}
use Rattle.std.proofs.lemmas.List.Folds.{list_all-append}
use Rattle.std.specs.List.{AllByRecursion, list_all}
use Rattle.zone_image.specs.Image.{Image, zone_of}
use Rattle.zone_image.specs.Infos.{IsValidImage}
use Rattle.record_model.specs.FieldDecoding.{◌>>=◌}
use Rattle.record_model.specs.declared.types.Extent.{Extent}
use Rattle.log_model.specs.FileTable.{Table, replay_log}
use Rattle.log_model.specs.Frames.{recovered_extents}
use Rattle.log_model.specs.LogSelection.{LogAt, scans_of, select_log, selected_log}
use Rattle.log_model.specs.Mounted.{MountsTo, all_extents, broken_rule, checked_table, in_zone, is_written, mounted_in, recovered_entry, table_in, table_of, tree_of}
use Rattle.log_model.specs.TableLaws.{AreSized}
use Rattle.log_model.proofs.SelectedLog.{went_on, ok_is}
use Rattle.fs_model.specs.FsState.{FsState, TableRow, mounted_row, recorded, state_with}
use Rattle.fs_model.specs.CrashClauses.{shown_file, shown_tree}
use Rattle.fs_model.specs.TreeSteps.{cleared}
use Rattle.crash_cover.specs.AtRest.{IsAtRest}
use Rattle.crash_cover.specs.FoundExtents.{IsWrittenIn}
use Rattle.crash_cover.proofs.FoundLaws.{found_is_written}
use Rattle.log_store.specs.Settled.{without_point}
use Rattle.change_records.specs.Recorded.{entries}
use Rattle.change_records.proofs.StepsWithoutRecord.{mounted_rows_are_valid}
use Rattle.change_cover.specs.Rests.{AreShown, HaveNoPoints}
use Rattle.change_cover.specs.Mounting.{MountedShowsImage, MountClearsRows, SettledStands, SettledShowsTheSame}
use Rattle.change_cover.proofs.ByteCounts.{shown_rows, split_written, unbroken_written}
use Rattle.change_cover.proofs.LeftTrees.{one_tree}
use Rattle.change_cover.proofs.ShownTrees.{rest_mounts_shown}

-- what is found is written
found_written : (i : Image) (n : ℕ) (xs : List Extent) → AllByRecursion (IsWrittenIn i n) xs → list_all (is_written i) xs ≡ true
found_written i n [] h = refl
found_written i n (x ∷ xs) h = and_from (is_written i x) (list_all (is_written i) xs) h.0.written (found_written i n xs h.1)

-- two lists together
both_lists : (i : Image) (xs ys : List Extent) → list_all (is_written i) xs ≡ true → list_all (is_written i) ys ≡ true → list_all (is_written i) (xs ++ ys) ≡ true
both_lists i xs ys front back = list_all-append (is_written i) xs ys ∙ and_from (list_all (is_written i) xs) (list_all (is_written i) ys) front back

-- so all extents are written, those that are found again too
mounted_written : (i : Image) (es : Table) → IsValidImage i → list_all (is_written i) (all_extents es) ≡ true → list_all (is_written i) (all_extents (map (recovered_entry i) es)) ≡ true
mounted_written i [] valid written = refl
mounted_written i (e ∷ es) valid written =
    let parts = split_written i e es written in
    let found = recovered_extents i e in
    both_lists i (e.extents ++ found) (all_extents (map (recovered_entry i) es))
    (both_lists i e.extents found parts.0 (found_written i (zone_of i.geometry e.active) found (found_is_written i e valid)))
    (mounted_written i es valid parts.1)

-- a table that is checked breaks no rule, and has what is found again
checked_unbroken : (i : Image) (log : LogAt) (es mounted : Table) (rule : Option ℕ) → checked_table i log es rule ≡ Ok mounted → (rule ≡ None) × (map (recovered_entry i) es ≡ mounted)
checked_unbroken i log es mounted None h = (refl, ok_is h)
checked_unbroken i log es mounted (Some rule) h = absurd cc

-- each extent of a table that mounts is written
table_written : (i : Image) (es : Table) → IsValidImage i → table_in i ≡ Ok es → list_all (is_written i) (all_extents es) ≡ true
unfolding table_in table_of
table_written i es valid h =
    let a = went_on (select_log i.geometry (scans_of i)) (λ log. table_of i log.0) es h in
    let b = went_on (in_zone a.0.0.zone (replay_log (drop 1 a.0.0.scan.payloads))) (λ t. checked_table i a.0.0 t (broken_rule i t)) es a.2 in
    let is = checked_unbroken i a.0.0 b.0 es (broken_rule i b.0) b.2 in
    subst (λ t. list_all (is_written i) (all_extents t) ≡ true) is.1 (mounted_written i b.0 valid (unbroken_written i b.0 is.0))

-- the rows of a table record it
entries_mounted : (es : Table) → entries (map mounted_row es) ≡ es
entries_mounted [] = refl
entries_mounted (e ∷ es) = ap (λ t. e ∷ t) (entries_mounted es)

-- the tree of a table that mounts
table_mounts : (i : Image) (es : Table) → table_in i ≡ Ok es → MountsTo i (tree_of i es)
unfolding mounted_in
table_mounts i es h = ap (λ r. r >>= (λ t. Ok (tree_of i t))) h

-- rows of a table that mounts show its tree
rows_show : (i : Image) (es : Table) (s : FsState) → IsValidImage i → table_in i ≡ Ok es → AreSized (entries (map mounted_row es)) → s.rows ≡ map mounted_row es → shown_tree i s ≡ tree_of i es
rows_show i es s valid h sized rows = ap (λ rs. map (shown_file i) rs) rows ∙ shown_rows i es valid (table_written i es valid h) (subst AreSized (entries_mounted es) sized)

pub mounted_shows_image : MountedShowsImage
mounted_shows_image i s valid h =
    let a = went_on (table_in i) (λ es. selected_log i >>= (λ log. Ok (state_with i es log))) s h in
    let b = went_on (selected_log i) (λ log. Ok (state_with i a.0 log)) s a.2 in
    let is : state_with i a.0 b.0 ≡ s = ok_is b.2 in
    let rows : s.rows ≡ map mounted_row a.0 = ap (λ (t : FsState). t.rows) (sym is) in
    let same : recorded s ≡ a.0 = ap entries rows ∙ entries_mounted a.0 in
    let sized = subst (λ rs. AreSized (entries rs)) rows (mounted_rows_are_valid i s h).sized in
    record {
      table = a.1 ∙ ap (λ t. Ok t) (sym same);
      log = b.1 ∙ ap (λ (t : FsState). Ok t.log) is;
      shown = rows ∙ ap (λ t. map mounted_row t) (sym same);
      mounts = table_mounts i a.0 a.1 ∙ ap (λ t. Ok t) (sym (rows_show i a.0 s valid a.1 sized rows));
    }

-- what rows record without their recovery points
entries_cleared : (rows : List TableRow) → entries (map cleared rows) ≡ map without_point (entries rows)
entries_cleared [] = refl
entries_cleared (q ∷ qs) = ap (λ es. (cleared q).entry ∷ es) (entries_cleared qs)

-- they have none
points_cleared : (rows : List TableRow) → HaveNoPoints (entries (map cleared rows))
points_cleared [] = tt
points_cleared (q ∷ qs) = (refl, points_cleared qs)

-- rows of a table, cleared, are the rows of a table
mounted_cleared : (es : Table) → AreShown (map cleared (map mounted_row es))
mounted_cleared [] = refl
mounted_cleared (e ∷ es) = ap (λ rs. cleared (mounted_row e) ∷ rs) (mounted_cleared es)

pub mount_clears_rows : MountClearsRows
mount_clears_rows rows = record {
  records = entries_cleared rows;
  points = points_cleared rows;
  shown = λ shown. subst (λ rs. AreShown (map cleared rs)) (sym shown) (mounted_cleared (entries rows));
}

pub settled_stands : SettledStands
settled_stands j s next log greatest shown becomes rest selected =
    let clears = mount_clears_rows s.rows in
    let same : recorded next ≡ map without_point (recorded s) = ap entries becomes.rows ∙ clears.records in
    record {
      rests = record {
        log = log;
        greatest = greatest;
        rest = subst (IsAtRest j log greatest) (sym same) rest;
        selected = selected ∙ ap (λ l. Ok l) (sym becomes.log);
      };
      shown = subst AreShown (sym becomes.rows) (clears.shown shown);
      points = subst (λ rows. HaveNoPoints (entries rows)) (sym becomes.rows) clears.points;
    }

pub settled_shows_the_same : SettledShowsTheSame
settled_shows_the_same i j s next mounts same stands =
    one_tree j (shown_tree j next) (shown_tree i s) (rest_mounts_shown j next stands) (same (shown_tree i s) mounts)

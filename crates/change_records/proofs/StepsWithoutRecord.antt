-- Steps that write no record, and the rows of a mount.
use Rattle.std.specs.Prelude.{◌≡◌, ℕ, ◌+◌, ◌^◌, ◌<◌, Bool, true, false, List, [], ◌∷◌, ◌++◌, drop, map, Option, Some, None, Result, Ok, Err, ◌==◌, if◌then◌else◌, refl}
use Rattle.std.proofs.Common.{◌∙◌, ap, sym, subst, inr, arith}
use Rattle.std.proofs.lemmas.Bool.{eq-eqb, eqb-true}
use Rattle.zone_image.specs.Image.{Image}
use Rattle.record_model.specs.FieldDecoding.{◌>>=◌}
use Rattle.record_model.specs.Grammar.{IsWritable}
use Rattle.record_model.specs.declared.types.Extent.{Extent}
use Rattle.record_model.specs.declared.types.FileEntry.{FileEntry}
use Rattle.log_model.specs.declared.selection.DamageWhy.{DamageWhy}
use Rattle.log_model.specs.FileTable.{Table, size_of, replay_log}
use Rattle.log_model.specs.FileTree.{without_time}
use Rattle.log_model.specs.Frames.{no_active, recovered_extents}
use Rattle.log_model.specs.LogSelection.{LogAt, select_log, scans_of, selected_log}
use Rattle.log_model.specs.Mounted.{recovered_entry, broken_rule, checked_table, in_zone, table_of, table_in, file_in, tree_of}
use Rattle.log_model.specs.TableLaws.{IsTable, AreSized}
use Rattle.log_model.proofs.DecodedNames.{replay_makes_table}
use Rattle.log_model.proofs.ReplayedSizes.{replayed_sizes_are_right}
use Rattle.log_model.proofs.ReplayLaws.{size_append}
use Rattle.log_model.proofs.SelectedLog.{went_on, ok_is}
use Rattle.fs_model.specs.FsState.{FsState, TableRow, on_row, mounted_row, state_with}
use Rattle.fs_model.specs.FileSteps.{note, shown_row}
use Rattle.fs_model.specs.TreeSteps.{cleared}
use Rattle.change_records.specs.Recorded.{entries, AreValid}
use Rattle.change_records.specs.Writable.{AreWritable}
use Rattle.change_records.specs.Unrecorded.{NoteRecordsNothing, ShowChangesTime, ShowStaysWritable, MountClearsPoints, MountedRowsAreValid}
use Rattle.change_records.proofs.EntryLaws.{all_rows, set_each}
use Rattle.change_records.proofs.FewerExtents.{IsLess}
use Rattle.change_records.proofs.PinnedRows.{pinned_less}
use Rattle.change_records.proofs.SameNames.{KeepsNames, table_map, sized_map, at_id, keeps_at, entries_at}
use Rattle.change_records.proofs.Writable.{pointed}

-- a row with a noted extent, or without
note_choice : (b : Bool) (x : Extent) (q : TableRow) → (if b then note x q else q).entry ≡ q.entry
note_choice true x q = refl
note_choice false x q = refl

pub note_records_nothing : NoteRecordsNothing
note_records_nothing [] id x = refl
note_records_nothing (q ∷ qs) id x =
    ap (λ e. e ∷ entries (on_row id (note x) qs)) (note_choice (q.entry.id == id) x q) ∙ ap (λ es. q.entry ∷ es) (note_records_nothing qs id x)

-- ---- bytes that are shown

-- the entry at another time
abbrev timed : ℕ → FileEntry → FileEntry
timed now e = record e { time = now }

-- it keeps all else
keeps_timed : (now : ℕ) → KeepsNames (timed now)
keeps_timed now = record { id = λ e. refl; names = λ e. refl; size = λ e right. right }

-- one entry at another time, or not, in front of others
timed_choice : (b : Bool) (now : ℕ) (e : FileEntry) (rest es : Table) → IsLess rest es → IsLess ((if b then timed now e else e) ∷ rest) (e ∷ es)
timed_choice true now e rest es less = inr ((e.names, now), rest, refl, less)
timed_choice false now e rest es less = inr ((e.names, e.time), rest, refl, less)

-- a table with another time of a file
timed_less : (id now : ℕ) (es : Table) → IsLess (map (at_id id (timed now)) es) es
timed_less id now [] = refl
timed_less id now (e ∷ es) = timed_choice (e.id == id) now e (map (at_id id (timed now)) es) es (timed_less id now es)

-- a file at another time, or not
file_choice : (b : Bool) (i : Image) (now : ℕ) (e : FileEntry) → without_time (file_in i (if b then timed now e else e)) ≡ without_time (file_in i e)
file_choice true i now e = refl
file_choice false i now e = refl

-- the tree with another time of a file
timed_tree : (i : Image) (id now : ℕ) (es : Table) → map without_time (tree_of i (map (at_id id (timed now)) es)) ≡ map without_time (tree_of i es)
timed_tree i id now [] = refl
timed_tree i id now (e ∷ es) =
    ap (λ f. f ∷ map without_time (tree_of i (map (at_id id (timed now)) es))) (file_choice (e.id == id) i now e)
    ∙ ap (λ fs. without_time (file_in i e) ∷ fs) (timed_tree i id now es)

pub show_changes_time : ShowChangesTime
show_changes_time rows id now =
    let same : entries (on_row id (shown_row now) rows) ≡ map (at_id id (timed now)) (entries rows) =
    entries_at id (timed now) (shown_row now) rows (λ q. refl) in
    let keeps = keeps_at id (timed now) (keeps_timed now) in record {
      valid =
          λ valid. record {
            table = subst IsTable (sym same) (table_map (at_id id (timed now)) keeps (entries rows) valid.table);
            sized = subst AreSized (sym same) (sized_map (at_id id (timed now)) keeps (entries rows) valid.sized);
          };
      pinned = λ i pinned. pinned_less i (entries (on_row id (shown_row now) rows)) (entries rows) (subst (λ t. IsLess t (entries rows)) (sym same) (timed_less id now (entries rows))) pinned;
      tree = λ i. ap (λ t. map without_time (tree_of i t)) same ∙ timed_tree i id now (entries rows);
    }

-- an entry at a time in its range
timed_writable : (now : ℕ) (e : FileEntry) → now < 2 ^ 64 → IsWritable e → IsWritable (record e { time = now })
timed_writable now e early w = record {
  id = w.id;
  size = w.size;
  hint = w.hint;
  time = early;
  active = w.active;
  extents = w.extents;
  names = w.names;
  named = w.named;
  apart = w.apart;
}

pub show_stays_writable : ShowStaysWritable
show_stays_writable rows id now early each =
    set_each IsWritable id (shown_row now) rows
    (all_rows IsWritable (λ q. q.entry.id ≡ id → IsWritable (shown_row now q).entry) rows (λ q w at. timed_writable now q.entry early w) each) each

-- ---- recovery points that are cleared

-- the entry without a recovery point
abbrev without_point : FileEntry → FileEntry
without_point e = record e { active = no_active }

-- it keeps all else
keeps_cleared : KeepsNames without_point
keeps_cleared = record { id = λ e. refl; names = λ e. refl; size = λ e right. right }

-- what the rows without them record
entries_cleared : (rows : List TableRow) → entries (map cleared rows) ≡ map without_point (entries rows)
entries_cleared [] = refl
entries_cleared (q ∷ qs) = ap (λ es. (cleared q).entry ∷ es) (entries_cleared qs)

-- it can be written
cleared_writable : (rows : List TableRow) → AreWritable rows → AreWritable (map cleared rows)
cleared_writable [] each = tt
cleared_writable (q ∷ qs) each = (pointed no_active q.entry (omega arith) each.0, cleared_writable qs each.1)

-- it is the same tree
cleared_tree : (i : Image) (rows : List TableRow) → tree_of i (entries (map cleared rows)) ≡ tree_of i (entries rows)
cleared_tree i [] = refl
cleared_tree i (q ∷ qs) = ap (λ fs. file_in i q.entry ∷ fs) (cleared_tree i qs)

pub mount_clears_points : MountClearsPoints
mount_clears_points rows = record {
  valid =
      λ valid. record {
        table = subst IsTable (sym (entries_cleared rows)) (table_map without_point keeps_cleared (entries rows) valid.table);
        sized = subst AreSized (sym (entries_cleared rows)) (sized_map without_point keeps_cleared (entries rows) valid.sized);
      };
  writable = cleared_writable rows;
  tree = λ i. cleared_tree i rows;
}

-- ---- the rows of a mount

-- with what is found again entries keep their names and right sizes
keeps_recovered : (i : Image) → KeepsNames (recovered_entry i)
keeps_recovered i = record {
  id = λ e. refl;
  names = λ e. refl;
  size = λ e right.
      eq-eqb (e.size + size_of (recovered_extents i e)) (size_of (e.extents ++ recovered_extents i e))
      (omega (arith, eqb-true e.size (size_of e.extents) right, size_append e.extents (recovered_extents i e)));
}

-- the rows of a table record it
entries_mounted : (es : Table) → entries (map mounted_row es) ≡ es
entries_mounted [] = refl
entries_mounted (e ∷ es) = ap (λ t. e ∷ t) (entries_mounted es)

-- a cause that isn't there has no zone
zoned_ok : (zone : ℕ) (r : Result Table (ℕ × DamageWhy)) (es : Table) → in_zone zone r ≡ Ok es → r ≡ Ok es
zoned_ok zone (Ok x) es h = ap (λ (t : Table). Ok t) (ok_is h)
zoned_ok zone (Err fault) es h = absurd cc

-- a table that breaks no rule has what is found again
checked_ok : (i : Image) (log : LogAt) (es mounted : Table) (rule : Option ℕ) → checked_table i log es rule ≡ Ok mounted → map (recovered_entry i) es ≡ mounted
checked_ok i log es mounted None h = ok_is h
checked_ok i log es mounted (Some rule) h = absurd cc

-- the table of an image that mounts
table_valid : (i : Image) (es : Table) → table_in i ≡ Ok es → AreValid (map mounted_row es)
unfolding table_in table_of
table_valid i es h =
    let a = went_on (select_log i.geometry (scans_of i)) (λ log. table_of i log.0) es h in
    let b = went_on (in_zone a.0.0.zone (replay_log (drop 1 a.0.0.scan.payloads))) (λ t. checked_table i a.0.0 t (broken_rule i t)) es a.2 in
    let replayed : replay_log (drop 1 a.0.0.scan.payloads) ≡ Ok b.0 = zoned_ok a.0.0.zone (replay_log (drop 1 a.0.0.scan.payloads)) b.0 b.1 in
    let same : entries (map mounted_row es) ≡ map (recovered_entry i) b.0 = entries_mounted es ∙ sym (checked_ok i a.0.0 b.0 es (broken_rule i b.0) b.2) in record {
      table = subst IsTable (sym same) (table_map (recovered_entry i) (keeps_recovered i) b.0 (replay_makes_table (drop 1 a.0.0.scan.payloads) b.0 replayed));
      sized = subst AreSized (sym same) (sized_map (recovered_entry i) (keeps_recovered i) b.0 (replayed_sizes_are_right (drop 1 a.0.0.scan.payloads) b.0 replayed));
    }

pub mounted_rows_are_valid : MountedRowsAreValid
mounted_rows_are_valid i s h =
    let a = went_on (table_in i) (λ es. selected_log i >>= (λ log. Ok (state_with i es log))) s h in
    let b = went_on (selected_log i) (λ log. Ok (state_with i a.0 log)) s a.2 in
    subst AreValid (ap (λ (t : FsState). t.rows) (ok_is b.2)) (table_valid i a.0 a.1)

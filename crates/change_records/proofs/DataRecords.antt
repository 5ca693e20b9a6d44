-- The records of commits, of recovery points and of replaced extents make what the rows after them record.
use Rattle.std.specs.Prelude.{◌≡◌, ℕ, ◌+◌, true, not, List, [], ◌∷◌, ◌++◌, map, Some, is_some, Ok, option_map, refl}
use Rattle.std.proofs.Common.{◌∙◌, ap, sym, arith}
use Rattle.std.proofs.lemmas.Bool.{eq-eqb, eqb-true}
use Rattle.std.proofs.lemmas.List.{append-nil}
use Rattle.std.proofs.lemmas.List.Sums.{sum_by-cons}
use Rattle.std.specs.List.{AllByRecursion}
use Rattle.record_model.specs.FieldDecoding.{◌>>=◌}
use Rattle.record_model.specs.declared.types.Extent.{Extent}
use Rattle.record_model.specs.declared.types.FileEntry.{FileEntry}
use Rattle.record_model.specs.declared.types.Record.TheVariants.{Update, Replace}
use Rattle.log_model.specs.FileTable.{file_of, is_named, set_entry, has_right_size, size_of, grown, unless_broken, after_record}
use Rattle.log_model.proofs.ReplayLaws.{file_has, update_known, same_names, size_append}
use Rattle.fs_model.specs.declared.zones.Move.{Move}
use Rattle.fs_model.specs.FsState.{TableRow, row_of, on_row}
use Rattle.fs_model.specs.FileSteps.{committed, committed_entry, with_recovery_point, moved, moved_extent}
use Rattle.fs_model.proofs.TreeLaws.{all_map}
use Rattle.change_records.specs.Recorded.{entries, AreValid}
use Rattle.change_records.specs.DataRecords.{CommitIsRecorded, RecoveryPointIsRecorded, ReplacementIsRecorded}
use Rattle.change_records.proofs.EntryLaws.{made_by, entries_set, row_entry, only_row}

-- the row of an id: a file of the table, with a right size and a name, and the only row of the id
record IsRow (r : TableRow) (rows : List TableRow) : Type 0 where
  pub found : file_of r.entry.id (entries rows) ≡ Some r.entry
  pub right : has_right_size r.entry ≡ true
  pub named : is_named r.entry ≡ true
  pub only : AllByRecursion (λ q. q.entry.id ≡ r.entry.id → q ≡ r) rows

-- a row that is found by its id is one
is_row : (r : TableRow) (rows : List TableRow) → AreValid rows → row_of r.entry.id rows ≡ Some r → IsRow r rows
is_row r rows valid is =
    let found : file_of r.entry.id (entries rows) ≡ Some r.entry = sym (row_entry r.entry.id rows) ∙ ap (λ o. option_map (λ q. q.entry) o) is in record {
      found = found;
      right = file_has (λ f. has_right_size f ≡ true) r.entry.id (entries rows) r.entry valid.sized found;
      named = file_has (λ f. is_named f ≡ true) r.entry.id (entries rows) r.entry valid.table.named found;
      only = only_row 0 r.entry.id rows r valid.table.ids is;
    }

-- a changed row's entry, under the names of the file, is set where it stood
set_in_place : (rows : List TableRow) (r : TableRow) (change : TableRow → TableRow) → AreValid rows → IsRow r rows
    → (change r).entry.id ≡ r.entry.id → (change r).entry.names ≡ r.entry.names → set_entry (change r).entry (entries rows) ≡ entries (on_row r.entry.id change rows)
set_in_place rows r change valid row id names =
    let it : FileEntry = (change r).entry in
    same_names (entries rows) r.entry it valid.table row.found id names
    ∙ sym (entries_set change it rows (all_map (λ q. q.entry.id ≡ r.entry.id → q ≡ r) (λ q. q.entry.id ≡ it.id → (change q).entry ≡ it) rows (λ q only at. ap (λ p. (change p).entry) (only (at ∙ id))) row.only))
    ∙ ap (λ n. entries (on_row n change rows)) id

-- ---- commits

-- the size of a file whose extents are all recorded is theirs
committed_size : (now : ℕ) (r : TableRow) → has_right_size r.entry ≡ true → has_right_size (committed_entry now r) ≡ true
committed_size now r right =
    eq-eqb (r.entry.size + size_of r.unrecorded) (size_of (r.entry.extents ++ r.unrecorded))
    (omega (arith, eqb-true r.entry.size (size_of r.entry.extents) right, size_append r.entry.extents r.unrecorded))

pub commit_is_recorded : CommitIsRecorded
commit_is_recorded rows r now valid is =
    let row = is_row r rows valid is in
    let u : FileEntry = record (committed_entry now r) { extents = r.unrecorded } in
    made_by (Update u) rows (on_row r.entry.id (committed now) rows) valid row.named
    (update_known u r.entry (entries rows) row.found (committed_size now r row.right)
    ∙ ap (λ es. Ok es) (set_in_place rows r (committed now) valid row refl refl))

-- ---- recovery points

-- the update of a recovery point adds no extents
pointed_grown : (start : ℕ) (e : FileEntry) → grown (Some e) (record e { active = start; extents = [] }) ≡ record e { active = start }
pointed_grown start e = ap (λ (xs : List Extent). record e { active = start; extents = xs }) (append-nil e.extents)

pub recovery_point_is_recorded : RecoveryPointIsRecorded
recovery_point_is_recorded rows r start valid is =
    let row = is_row r rows valid is in
    let u : FileEntry = record (r.entry) { active = start; extents = [] } in
    made_by (Update u) rows (on_row r.entry.id (with_recovery_point start) rows) valid row.named
    (update_known u r.entry (entries rows) row.found (ap has_right_size (pointed_grown start r.entry) ∙ row.right)
    ∙ ap (λ es. Ok es)
    (ap (λ f. set_entry f (entries rows)) (pointed_grown start r.entry) ∙ set_in_place rows r (with_recovery_point start) valid row refl refl))

-- ---- replaced extents

-- extents that are moved keep their lengths
moved_size : (moves : List Move) (xs : List Extent) → size_of (map (moved_extent moves) xs) ≡ size_of xs
moved_size moves [] = refl
moved_size moves (x ∷ xs) =
    omega (arith, sum_by-cons (λ (y : Extent). y.len) (moved_extent moves x) (map (moved_extent moves) xs), sum_by-cons (λ (y : Extent). y.len) x xs, moved_size moves xs)

pub replacement_is_recorded : ReplacementIsRecorded
unfolding after_record
replacement_is_recorded rows r moves valid is =
    let row = is_row r rows valid is in
    let it : FileEntry = (moved moves r).entry in
    let right : has_right_size it ≡ true =
    eq-eqb r.entry.size (size_of it.extents) (eqb-true r.entry.size (size_of r.entry.extents) row.right ∙ sym (moved_size moves r.entry.extents)) in
    made_by (Replace it) rows (on_row r.entry.id (moved moves) rows) valid row.named
    (ap (λ o. unless_broken (not (is_some o)) 3 (entries rows) >>= (λ a. unless_broken (not (has_right_size it)) 5 (set_entry it (entries rows)))) row.found
    ∙ ap (λ b. unless_broken (not b) 5 (set_entry it (entries rows))) right
    ∙ ap (λ es. Ok es) (set_in_place rows r (moved moves) valid row refl refl))

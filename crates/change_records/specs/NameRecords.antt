-- The records of new files, of links, of renames and of deletions.
use Rattle.std.specs.Prelude.{◌≡◌, ℕ, ◌<◌, Bool, List, [], ◌∷◌, ◌++◌, Some, None}
use Rattle.std.specs.List.{AllByRecursion}
use Rattle.record_model.specs.declared.types.Record.TheVariants.{Update, Deletion}
use Rattle.fs_model.specs.FsState.{TableRow, row_named, on_row}
use Rattle.fs_model.specs.TreeSteps.{new_entry, new_row, with_names, entry_update, drop_name, renamed_rows, entry_in}
use Rattle.change_records.specs.Recorded.{AreValid, Makes}

-- the update of a new file, of an id above all others and of a name that no file has
abbrev pub CreateIsRecorded : Type 0
CreateIsRecorded = (rows : List TableRow) (id : ℕ) (name : List ℕ) (hint : ℕ) (sparse : Bool) (now : ℕ) → AreValid rows
    → AllByRecursion (λ r. r.entry.id < id) rows → row_named name rows ≡ None
    → Makes (Update (new_entry id name hint sparse now)) rows (rows ++ new_row (new_entry id name hint sparse now) ∷ [])

-- the update of a file with one more name, which no file has
abbrev pub LinkIsRecorded : Type 0
LinkIsRecorded = (rows : List TableRow) (r : TableRow) (old new : List ℕ) → AreValid rows → row_named old rows ≡ Some r → row_named new rows ≡ None
    → Makes (entry_update (with_names (r.entry.names ++ new ∷ []) r).entry) rows (on_row r.entry.id (with_names (r.entry.names ++ new ∷ [])) rows)

-- the deletion of a name of a file
abbrev pub UnlinkIsRecorded : Type 0
UnlinkIsRecorded = (rows : List TableRow) (r : TableRow) (name : List ℕ) → AreValid rows → row_named name rows ≡ Some r
    → Makes (Deletion r.entry.id name) rows (drop_name name rows)

-- the rows after a rename of a file's old name
abbrev pub rows_renamed : List TableRow → TableRow → List ℕ → List ℕ → List TableRow
rows_renamed rows r old new = renamed_rows r (row_named new rows) old new rows

-- the update of a file under its new name: no file had that name, or another one, or the file itself
abbrev pub RenameIsRecorded : Type 0
RenameIsRecorded = (rows : List TableRow) (r : TableRow) (old new : List ℕ) → AreValid rows → row_named old rows ≡ Some r
    → Makes (entry_update (entry_in r.entry.id (rows_renamed rows r old new) r.entry)) rows (rows_renamed rows r old new)

-- What is recorded after a change, with its bytes, is the recorded tree with the change made.
use Rattle.std.specs.Prelude.{◌≡◌, ℕ, Bool, List, [], ◌∷◌, ◌++◌, Some, None}
use Rattle.zone_image.specs.Image.{Image}
use Rattle.log_model.specs.FileTree.{Change, apply}
use Rattle.log_model.specs.FileTree.Change.{Create, Grow, Link, Rename, Unlink}
use Rattle.log_model.specs.Frames.{bytes_of}
use Rattle.log_model.specs.Mounted.{tree_of}
use Rattle.fs_model.specs.declared.zones.Move.{Move}
use Rattle.fs_model.specs.FsState.{TableRow, working_entry, row_of, row_named, on_row}
use Rattle.fs_model.specs.TreeSteps.{new_entry, new_row, with_names, drop_name}
use Rattle.fs_model.specs.FileSteps.{commit_time, committed, with_recovery_point, moved}
use Rattle.change_records.specs.Recorded.{entries, AreValid}
use Rattle.change_records.specs.NameRecords.{rows_renamed}

-- the recorded tree with a change made
abbrev pub IsChanged : Change → List TableRow → List TableRow → Type 0
IsChanged c rows after = (i : Image) → tree_of i (entries after) ≡ apply c (tree_of i (entries rows))

-- a new file
abbrev pub CreateChangesTree : Type 0
CreateChangesTree = (rows : List TableRow) (id : ℕ) (name : List ℕ) (hint : ℕ) (sparse : Bool) (now : ℕ)
    → IsChanged (Create name id hint sparse now) rows (rows ++ new_row (new_entry id name hint sparse now) ∷ [])

-- one more name
abbrev pub LinkChangesTree : Type 0
LinkChangesTree = (rows : List TableRow) (r : TableRow) (old new : List ℕ) → AreValid rows → row_named old rows ≡ Some r → row_named new rows ≡ None
    → IsChanged (Link old new) rows (on_row r.entry.id (with_names (r.entry.names ++ new ∷ [])) rows)

-- another name
abbrev pub RenameChangesTree : Type 0
RenameChangesTree = (rows : List TableRow) (r : TableRow) (old new : List ℕ) → AreValid rows → row_named old rows ≡ Some r
    → IsChanged (Rename old new) rows (rows_renamed rows r old new)

-- a name fewer
abbrev pub UnlinkChangesTree : Type 0
UnlinkChangesTree = (rows : List TableRow) (name : List ℕ) → IsChanged (Unlink name) rows (drop_name name rows)

-- a commit grows the file by what wasn't recorded
abbrev pub CommitGrowsFile : Type 0
CommitGrowsFile = (rows : List TableRow) (r : TableRow) (now : ℕ) → AreValid rows → row_of r.entry.id rows ≡ Some r
    → (i : Image) → tree_of i (entries (on_row r.entry.id (committed now) rows)) ≡ apply (Grow r.entry.id (bytes_of i (working_entry r).extents) (commit_time now r)) (tree_of i (entries rows))

-- a recovery point changes no tree
abbrev pub RecoveryPointKeepsTree : Type 0
RecoveryPointKeepsTree = (rows : List TableRow) (id start : ℕ) (i : Image) → tree_of i (entries (on_row id (with_recovery_point start) rows)) ≡ tree_of i (entries rows)

-- nor do moved extents of the same bytes
abbrev pub ReplacementKeepsTree : Type 0
ReplacementKeepsTree = (rows : List TableRow) (r : TableRow) (moves : List Move) → AreValid rows → row_of r.entry.id rows ≡ Some r
    → (i : Image) → bytes_of i (moved moves r).entry.extents ≡ bytes_of i r.entry.extents → tree_of i (entries (on_row r.entry.id (moved moves) rows)) ≡ tree_of i (entries rows)

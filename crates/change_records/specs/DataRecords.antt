-- The records of commits, of recovery points and of replaced extents.
use Rattle.std.specs.Prelude.{◌≡◌, ℕ, List, Some}
use Rattle.record_model.specs.declared.types.Record.TheVariants.{Replace}
use Rattle.fs_model.specs.declared.zones.Move.{Move}
use Rattle.fs_model.specs.FsState.{TableRow, row_of, on_row}
use Rattle.fs_model.specs.TreeSteps.{entry_update}
use Rattle.fs_model.specs.FileSteps.{commit_record, committed, with_recovery_point, moved}
use Rattle.change_records.specs.Recorded.{AreValid, Makes}

-- the update of a commit, which has the extents that weren't recorded
abbrev pub CommitIsRecorded : Type 0
CommitIsRecorded = (rows : List TableRow) (r : TableRow) (now : ℕ) → AreValid rows → row_of r.entry.id rows ≡ Some r
    → Makes (commit_record now r) rows (on_row r.entry.id (committed now) rows)

-- the update of a recovery point
abbrev pub RecoveryPointIsRecorded : Type 0
RecoveryPointIsRecorded = (rows : List TableRow) (r : TableRow) (start : ℕ) → AreValid rows → row_of r.entry.id rows ≡ Some r
    → Makes (entry_update (with_recovery_point start r).entry) rows (on_row r.entry.id (with_recovery_point start) rows)

-- the replacement by extents that were moved
abbrev pub ReplacementIsRecorded : Type 0
ReplacementIsRecorded = (rows : List TableRow) (r : TableRow) (moves : List Move) → AreValid rows → row_of r.entry.id rows ≡ Some r
    → Makes (Replace (moved moves r).entry) rows (on_row r.entry.id (moved moves) rows)

-- Commits, shown bytes, noted extents and recovery points keep the rules of a mount that writes.
use Rattle.std.specs.Prelude.{◌≡◌, ℕ, ◌^◌, ◌<◌, true, [], Some}
use Rattle.record_model.specs.declared.types.Extent.{Extent}
use Rattle.log_model.specs.Headroom.{has_room}
use Rattle.fs_model.specs.FsState.{FsState, TableRow, working_of, recorded, row_of, on_row}
use Rattle.fs_model.specs.LogSteps.{set_row}
use Rattle.fs_model.specs.FileSteps.{committed, with_recovery_point, note, show}
use Rattle.state_rules.specs.Rules.{finds_again}
use Rattle.state_rules.specs.NoteRules.{MayNote}
use Rattle.state_rules.specs.Unbroken.{PointLies}
use Rattle.state_rules.specs.WritingRules.{KeepsWritingRules}

-- a commit, which needs no more room than the table had
abbrev pub CommitKeepsWriting : Type 0
CommitKeepsWriting = (s : FsState) (r : TableRow) (now : ℕ) → KeepsWritingRules s → row_of r.entry.id s.rows ≡ Some r → now < 2 ^ 64
    → KeepsWritingRules (set_row r.entry.id (committed now) s).last

-- bytes that are shown of a sparse file with a recovery point
abbrev pub ShowKeepsWriting : Type 0
ShowKeepsWriting = (s : FsState) (r : TableRow) (now : ℕ) → KeepsWritingRules s → row_of r.entry.id s.rows ≡ Some r → now < 2 ^ 64 → finds_again r ≡ true
    → KeepsWritingRules (show r.entry.id now s).last

-- an extent that may be noted, where the table has room with it
abbrev pub NoteKeepsWriting : Type 0
NoteKeepsWriting = (s : FsState) (r : TableRow) (x : Extent) → KeepsWritingRules s → row_of r.entry.id s.rows ≡ Some r → MayNote s r x
    → has_room s.geometry.capacity s.geometry.block (working_of (on_row r.entry.id (note x) s.rows)) ≡ true → KeepsWritingRules (set_row r.entry.id (note x) s).last

-- a recovery point in the zone of the file's writer
abbrev pub PointKeepsWriting : Type 0
PointKeepsWriting = (s : FsState) (r : TableRow) (start : ℕ) → KeepsWritingRules s → row_of r.entry.id s.rows ≡ Some r → start < 2 ^ 64 → r.unrecorded ≡ []
    → PointLies s.geometry s.zones (recorded s) (with_recovery_point start r).entry → KeepsWritingRules (set_row r.entry.id (with_recovery_point start) s).last

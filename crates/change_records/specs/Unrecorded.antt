-- Steps that write no record, and the rows of a mount.
use Rattle.std.specs.Prelude.{◌≡◌, ℕ, ◌^◌, ◌<◌, List, map, Ok}
use Rattle.zone_image.specs.Image.{Image}
use Rattle.record_model.specs.declared.types.Extent.{Extent}
use Rattle.log_model.specs.FileTree.{SameButTimes}
use Rattle.log_model.specs.Mounted.{tree_of}
use Rattle.fs_model.specs.FsState.{FsState, TableRow, on_row, state_in}
use Rattle.fs_model.specs.FileSteps.{note, shown_row}
use Rattle.fs_model.specs.TreeSteps.{cleared}
use Rattle.crash_cover.specs.Pinned.{IsPinned}
use Rattle.change_records.specs.Recorded.{entries, AreValid}
use Rattle.change_records.specs.Writable.{AreWritable}

-- an extent that is noted isn't recorded
abbrev pub NoteRecordsNothing : Type 0
NoteRecordsNothing = (rows : List TableRow) (id : ℕ) (x : Extent) → entries (on_row id (note x) rows) ≡ entries rows

-- rows that record the same but for times
pub record DiffersInTimes (rows after : List TableRow) : Type 0 where
  pub valid : AreValid rows → AreValid after
  pub pinned : (i : Image) → IsPinned i (entries rows) → IsPinned i (entries after)
  pub tree : (i : Image) → SameButTimes (tree_of i (entries after)) (tree_of i (entries rows))

-- bytes that are shown change a time at most
abbrev pub ShowChangesTime : Type 0
ShowChangesTime = (rows : List TableRow) (id now : ℕ) → DiffersInTimes rows (on_row id (shown_row now) rows)

-- and at a time in its range what is recorded can be written
abbrev pub ShowStaysWritable : Type 0
ShowStaysWritable = (rows : List TableRow) (id now : ℕ) → now < 2 ^ 64 → AreWritable rows → AreWritable (on_row id (shown_row now) rows)

-- rows without recovery points, as a mount for writing makes them, are valid, can be written, and are the same tree
pub record ClearsPoints (rows after : List TableRow) : Type 0 where
  pub valid : AreValid rows → AreValid after
  pub writable : AreWritable rows → AreWritable after
  pub tree : (i : Image) → tree_of i (entries after) ≡ tree_of i (entries rows)

-- a mount for writing clears the recovery points
abbrev pub MountClearsPoints : Type 0
MountClearsPoints = (rows : List TableRow) → ClearsPoints rows (map cleared rows)

-- the rows of an image that mounts are valid, whoever wrote it
abbrev pub MountedRowsAreValid : Type 0
MountedRowsAreValid = (i : Image) (s : FsState) → state_in i ≡ Ok s → AreValid s.rows

-- What changes a row.
use Rattle.std.specs.Prelude.{◌≡◌, ℕ, ◌+◌, [], refl}
use Rattle.log_model.specs.FileTable.{size_of}
use Rattle.log_model.specs.Frames.{no_active}
use Rattle.fs_model.specs.FsState.{TableRow, working_entry}
use Rattle.fs_model.specs.FileSteps.{commit_time, committed}

-- all extents of the file recorded and shown, and where the next frames begin
abbrev pub recorded_row : ℕ → TableRow → TableRow
recorded_row active r = record { entry = record (working_entry r) { active = active }; unrecorded = []; shown = r.entry.size + size_of r.unrecorded }

-- all extents of the file recorded and shown
abbrev pub joined_row : TableRow → TableRow
joined_row r = record { entry = working_entry r; unrecorded = []; shown = r.entry.size + size_of r.unrecorded }

-- the row at this time
abbrev pub at_time : ℕ → TableRow → TableRow
at_time time r = record r { entry = record (r.entry) { time = time } }

-- a commit records all extents, without a recovery point
commit_is_recorded : (now : ℕ) (r : TableRow) → committed now r ≡ recorded_row no_active (at_time (commit_time now r) r)
commit_is_recorded now r = refl

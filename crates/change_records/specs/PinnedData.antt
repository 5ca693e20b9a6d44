-- Commits, recovery points and replaced extents leave what is recorded pinned where their own extents are.
use Rattle.std.specs.Prelude.{◌≡◌, ℕ, true, false, List, map, Some}
use Rattle.std.specs.List.{list_all}
use Rattle.zone_image.specs.Image.{Image}
use Rattle.zone_image.specs.Infos.{IsValidImage}
use Rattle.log_model.specs.Mounted.{all_extents, recovered_entry, overlap}
use Rattle.fs_model.specs.declared.zones.Move.{Move}
use Rattle.fs_model.specs.FsState.{TableRow, row_of, on_row}
use Rattle.fs_model.specs.FileSteps.{committed, with_recovery_point, moved}
use Rattle.crash_cover.specs.Pinned.{is_durable, is_durable_point, IsPinned}
use Rattle.change_records.specs.Recorded.{entries, AreValid}

-- the extents that are recorded, with those that are found again, share no byte
abbrev pub ShareNoByte : Image → List TableRow → Type 0
ShareNoByte i rows = overlap (all_extents (map (recovered_entry i) (entries rows))) ≡ false

-- a commit of extents that are durable
abbrev pub CommitStaysPinned : Type 0
CommitStaysPinned = (i : Image) (rows : List TableRow) (r : TableRow) (now : ℕ) → IsValidImage i → AreValid rows → row_of r.entry.id rows ≡ Some r
    → IsPinned i (entries rows) → list_all (is_durable i) r.unrecorded ≡ true → ShareNoByte i (on_row r.entry.id (committed now) rows)
    → IsPinned i (entries (on_row r.entry.id (committed now) rows))

-- a durable recovery point of a sparse file
abbrev pub RecoveryPointStaysPinned : Type 0
RecoveryPointStaysPinned = (i : Image) (rows : List TableRow) (r : TableRow) (start : ℕ) → IsValidImage i → AreValid rows → row_of r.entry.id rows ≡ Some r
    → IsPinned i (entries rows) → is_durable_point i start ≡ true → r.entry.sparse ≡ true → ShareNoByte i (on_row r.entry.id (with_recovery_point start) rows)
    → IsPinned i (entries (on_row r.entry.id (with_recovery_point start) rows))

-- extents moved to where they are durable
abbrev pub ReplacementStaysPinned : Type 0
ReplacementStaysPinned = (i : Image) (rows : List TableRow) (r : TableRow) (moves : List Move) → IsValidImage i → AreValid rows → row_of r.entry.id rows ≡ Some r
    → IsPinned i (entries rows) → list_all (is_durable i) (moved moves r).entry.extents ≡ true → ShareNoByte i (on_row r.entry.id (moved moves) rows)
    → IsPinned i (entries (on_row r.entry.id (moved moves) rows))

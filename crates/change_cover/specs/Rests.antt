-- States whose recorded table an image has at rest.
use Rattle.std.specs.Prelude.{◌≡◌, ℕ, List, map, Ok}
use Rattle.std.specs.List.{AllByRecursion}
use Rattle.zone_image.specs.Image.{Image}
use Rattle.log_model.specs.declared.selection.Chosen.{Chosen}
use Rattle.log_model.specs.LogSelection.{LogAt, selected_log}
use Rattle.log_model.specs.FileTable.{Table}
use Rattle.log_model.specs.Frames.{no_active}
use Rattle.fs_model.specs.FsState.{FsState, TableRow, recorded, mounted_row}
use Rattle.crash_cover.specs.AtRest.{IsAtRest}
use Rattle.change_records.specs.Recorded.{entries}

-- the image has the recorded table of the state at rest, and the state's log is the one that counts
pub record Rests (i : Image) (s : FsState) : Type 0 where
  pub log : LogAt
  pub greatest : ℕ
  pub rest : IsAtRest i log greatest (recorded s)
  pub selected : selected_log i ≡ Ok s.log

-- no entry has a recovery point
abbrev pub HaveNoPoints : Table → Type 0
HaveNoPoints es = AllByRecursion (λ e. e.active ≡ no_active) es

-- all extents are recorded, and all bytes are shown
abbrev pub AreShown : List TableRow → Type 0
AreShown rows = rows ≡ map mounted_row (entries rows)

-- the image has it at rest, all is recorded and shown, and no file has a recovery point: so it is between two calls while nobody writes a file
pub record Stands (i : Image) (s : FsState) : Type 0 where
  pub rests : Rests i s
  pub shown : AreShown s.rows
  pub points : HaveNoPoints (recorded s)

-- the state has these rows, and this log counts
pub record Becomes (counts : Chosen) (after : List TableRow) (next : FsState) : Type 0 where
  pub rows : next.rows ≡ after
  pub log : next.log ≡ counts

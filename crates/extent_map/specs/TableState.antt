-- What a table is to its callers.
use Rattle.std.specs.Prelude.{ℕ, ◌≤◌, ◌-◌, ◌^◌, List, Option}
use Rattle.std.specs.List.{AllByRecursion}
use Rattle.log_model.specs.TableLaws.{IsTable}
use Rattle.fs_model.specs.FsState.{TableRow}
use Rattle.extent_map.specs.Records.{recorded_of}

-- the files by rising id, the greatest id that was given since the mount, for each file the number of extents for which room
-- is made, the number of changes of names for which room is made, and the id for which room was made last
pub record TableState : Type 0 where
  pub rows : List TableRow
  pub greatest : ℕ
  pub spare : List (ℕ × ℕ)
  pub names_spare : ℕ
  pub reserved : Option ℕ

-- the ids rise up to the greatest, each file has a name, and no name is that of two files
pub record IsTableState (rows : List TableRow) (greatest : ℕ) : Type 0 where
  pub table : IsTable (recorded_of rows)
  pub above : AllByRecursion (λ r. r.entry.id ≤ greatest) rows
  pub limit : greatest ≤ 2 ^ 64 - 2

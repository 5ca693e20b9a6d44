-- The id of a new file.
use Rattle.std.specs.Prelude.{ℕ, ◌+◌, ◌-◌, ◌^◌, List, Result, Ok, Err, is_some, ◌==◌, if◌then◌else◌}
use Rattle.fs_model.specs.FsState.{TableRow, row_named}
use Rattle.extent_map.specs.declared.error.TableError.{TableError}
use Rattle.extent_map.specs.declared.error.TableError.TheVariants.{Exists, IdsEnd}

-- the greatest id and one, or why there is no new file of this name
abbrev pub new_id : List ℕ → List TableRow → ℕ → Result ℕ TableError
new_id name rows greatest = if is_some (row_named name rows) then Err Exists else if greatest == 2 ^ 64 - 2 then Err IdsEnd else Ok (greatest + 1)

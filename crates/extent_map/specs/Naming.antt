-- Names that are given, moved and taken away.
use Rattle.std.specs.Prelude.{ℕ, ◌-◌, List, ◌∷◌, [], ◌++◌, length, map, filter, min, Option, Some, None, Result, Ok, Err, is_some, ◌==◌, if◌then◌else◌}
use Rattle.std.specs.Option.{option_and_then}
use Rattle.record_model.specs.declared.types.Extent.{Extent}
use Rattle.log_model.specs.FileTable.{names_left, is_named}
use Rattle.fs_model.specs.FsState.{TableRow, row_of, row_named, on_row}
use Rattle.fs_model.specs.TreeSteps.{with_names}
use Rattle.extent_map.specs.declared.error.TableError.{TableError}
use Rattle.extent_map.specs.declared.error.TableError.TheVariants.{NotFound, Exists}
use Rattle.extent_map.specs.declared.error.Moved.{Moved}
use Rattle.extent_map.specs.declared.error.Moved.TheVariants.{Same, Done}

-- the row without these names
abbrev pub without_names : List (List ℕ) → TableRow → TableRow
without_names taken r = with_names (names_left taken r.entry.names) r

-- the rows of the files that have a name left once these are taken from them
abbrev pub rows_left : List (List ℕ) → List TableRow → List TableRow
rows_left taken rows = filter (λ r. is_named r.entry) (map (without_names taken) rows)

-- the id of the file that is linked, or why none is
abbrev pub linked_id : Option TableRow → Option TableRow → Result ℕ TableError
linked_id None there = Err NotFound
linked_id (Some r) there = if is_some there then Err Exists else Ok r.entry.id

-- the rows with one more name of this one
abbrev pub linked_rows : List ℕ → TableRow → List TableRow → List TableRow
linked_rows new r rows = on_row r.entry.id (with_names (r.entry.names ++ new ∷ [])) rows

-- what a rename of this file says, by the file that has the new name
abbrev pub moved_row : TableRow → Option TableRow → Moved
moved_row r None = Done r.entry.id
moved_row r (Some other) = if other.entry.id == r.entry.id then Same else Done r.entry.id

-- the same, or why nothing is renamed
abbrev pub moved_id : Option TableRow → Option TableRow → Result Moved TableError
moved_id None there = Err NotFound
moved_id (Some r) there = Ok (moved_row r there)

-- the id of the file that loses a name, or why none does
abbrev pub unlinked_id : Option TableRow → Result ℕ TableError
unlinked_id None = Err NotFound
unlinked_id (Some r) = Ok r.entry.id

-- how many names more this room takes, if it is for this file, and at most so many
abbrev pub names_within : ℕ → Option TableRow → ℕ → ℕ
names_within room None most = most
names_within room (Some r) most = min (room - length r.entry.names) most

-- the file for which room was made last
abbrev pub reserved_row : Option ℕ → List TableRow → Option TableRow
reserved_row reserved rows = option_and_then (λ id. row_of id rows) reserved

-- the extents of a file that is gone without this name
abbrev pub lost_by : List ℕ → Option TableRow → List Extent
lost_by name None = []
lost_by name (Some r) = if is_named (without_names (name ∷ []) r).entry then [] else r.entry.extents

-- the recorded extents of the file that is gone once this name is taken away
abbrev pub lost_extents : List ℕ → List TableRow → List Extent
lost_extents name rows = lost_by name (row_named name rows)

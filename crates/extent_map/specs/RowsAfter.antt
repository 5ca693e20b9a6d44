-- Rows after a change of names, and the bytes of their entries.
use Rattle.std.specs.Prelude.{◌≡◌, ℕ, List, length, ◌==◌, if◌then◌else◌}
use Rattle.std.specs.List.{flat_map}
use Rattle.record_model.specs.Encoding.{field_bytes, entry_bytes, slice}
use Rattle.record_model.specs.declared.field.Field.TheVariants.{Linked}
use Rattle.record_codec.specs.Length.{told}
use Rattle.fs_model.specs.FsState.{TableRow, working_of, on_row}
use Rattle.fs_model.specs.TreeSteps.{with_names}
use Rattle.extent_map.specs.Naming.{rows_left}

-- the rows without the names that are taken, in which the file of an id has these names
abbrev pub rows_after : ℕ → List (List ℕ) → List (List ℕ) → List TableRow → List TableRow
rows_after id names taken rows = on_row id (with_names names) (rows_left taken rows)

-- the row with these names, if it is the file of this id
abbrev pub row_after : ℕ → List (List ℕ) → TableRow → TableRow
row_after id names r = if r.entry.id == id then with_names names r else r

-- the bytes of the fields of names
abbrev pub names_bytes : List (List ℕ) → List ℕ
names_bytes names = flat_map (λ name. field_bytes (Linked name)) names

-- the fields of the names take so many bytes
abbrev pub AreNamesOf : ℕ → List (List ℕ) → Type 0
AreNamesOf len names = len ≡ told (length (names_bytes names))

-- the bytes of the entries of rows with all their extents, each in a slice
abbrev pub entries_bytes : List TableRow → List ℕ
entries_bytes rows = flat_map (λ e. slice (entry_bytes e)) (working_of rows)

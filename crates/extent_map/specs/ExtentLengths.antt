-- The lengths of records that one more extent of a file brings.
use Rattle.std.specs.Prelude.{◌≡◌, ℕ, List, [], ◌∷◌, ◌++◌, ◌==◌, if◌then◌else◌}
use Rattle.record_codec.specs.Length.{told}
use Rattle.fs_model.specs.FsState.{TableRow, on_row, working_of}
use Rattle.extent_map.specs.Records.{snapshot_len, greatest_len}
use Rattle.extent_map.specs.declared.extent_lengths.ExtentLengths.{ExtentLengths}

-- the row with one more extent that isn't recorded, of one byte
abbrev pub with_one_extent : TableRow → TableRow
with_one_extent r = record r { unrecorded = r.unrecorded ++ (record { start = 0; len = 1 }) ∷ [] }

-- the same of the file of an id, and no other
abbrev pub row_with_extent : ℕ → TableRow → TableRow
row_with_extent id r = if r.entry.id == id then with_one_extent r else r

-- the rows in which that file has one more
abbrev pub rows_with_extent : ℕ → List TableRow → List TableRow
rows_with_extent id rows = on_row id with_one_extent rows

-- the lengths of the snapshot and of the longest update of these rows; each stops at the greatest 64-bit number
pub record TellsExtentLengths (l : ExtentLengths) (after : List TableRow) : Type 0 where
  pub snapshot : l.snapshot_bytes ≡ told (snapshot_len after)
  pub longest : l.longest_bytes ≡ told (greatest_len (working_of after))

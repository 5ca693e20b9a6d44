-- Entries that a table may hold.
use Rattle.std.specs.Prelude.{ℕ, ◌≡◌, ◌+◌, ◌-◌, ◌^◌, ◌<◌, ◌≤◌, [], length}
use Rattle.record_model.specs.Grammar.{AreApart}
use Rattle.record_model.specs.declared.types.FileEntry.{FileEntry}
use Rattle.log_model.specs.FileTable.{size_of}
use Rattle.fs_model.specs.FsState.{TableRow}

-- an entry that can be a row: its id is in range, its size is right, it has a name, and none twice
pub record IsSound (e : FileEntry) : Type 0 where
  pub id : e.id < 2 ^ 64 - 1
  pub size : e.size ≡ size_of e.extents
  pub named : 0 < length e.names
  pub apart : AreApart e.names

-- the entry is sound, all extents together have a size, no more bytes than these are shown, and all are where everything is recorded
pub record IsRow (r : TableRow) : Type 0 where
  pub sound : IsSound r.entry
  pub whole : r.entry.size + size_of r.unrecorded < 2 ^ 64
  pub shown : r.shown ≤ r.entry.size + size_of r.unrecorded
  pub settled : r.unrecorded ≡ [] → r.shown ≡ r.entry.size

-- there is room for all extents, where some aren't recorded
abbrev pub HasRoom : ℕ → ℕ → ℕ → Type 0
HasRoom recorded unrecorded room = 0 < unrecorded → recorded + unrecorded ≤ room

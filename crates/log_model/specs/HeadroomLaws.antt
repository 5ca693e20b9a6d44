-- What room for metadata a table keeps.
use Rattle.std.specs.Prelude.{◌≡◌, ℕ, ◌≤◌, true, [], ◌∷◌, length, List, Some}
use Rattle.std.specs.List.{AllZip}
use Rattle.record_model.specs.declared.types.FileEntry.{FileEntry}
use Rattle.record_model.specs.declared.types.Record.TheVariants.{Update, Deletion, Replace}
use Rattle.log_model.specs.FileTable.{Table, file_of, take_names}
use Rattle.log_model.specs.Headroom.{blocks_of_record, snapshot_blocks, greatest_blocks, log_need, change_need, has_room}

-- an entry has the names and the mark of another, and no more extents
pub record IsNoLonger (e f : FileEntry) : Type 0 where
  pub names : e.names ≡ f.names
  pub sparse : e.sparse ≡ f.sparse
  pub extents : length e.extents ≤ length f.extents

-- a table has room still once a name is deleted
abbrev pub DeletionKeepsRoom : Type 0
DeletionKeepsRoom = (capacity block : ℕ) (es : Table) (name : List ℕ) → 512 ≤ block → has_room capacity block es ≡ true
    → has_room capacity block (take_names (name ∷ []) es) ≡ true

-- the record of a deletion takes one block
abbrev pub DeletionTakesOneBlock : Type 0
DeletionTakesOneBlock = (block id : ℕ) (name : List ℕ) → 512 ≤ block → length name ≤ 255 → blocks_of_record block (Deletion id name) ≡ 1

-- where a table has room, a new log with it takes one block more
abbrev pub RoomForDeletion : Type 0
RoomForDeletion = (block : ℕ) (es : Table) → change_need block es 1 ≤ log_need block es

-- where a table has room, a new log with it takes the update or replacement of one of its files
abbrev pub RecordFitsTable : Type 0
RecordFitsTable = (block : ℕ) (es : Table) (e f : FileEntry) → 512 ≤ block → file_of f.id es ≡ Some f → IsNoLonger e f
    → (blocks_of_record block (Update e) ≤ greatest_blocks block es) × (blocks_of_record block (Replace e) ≤ greatest_blocks block es)

-- a table whose files have no more extents than another's needs no more for itself
abbrev pub FewerExtentsNeedNoMore : Type 0
FewerExtentsNeedNoMore = (block : ℕ) (es fs : Table) → 512 ≤ block → AllZip IsNoLonger es fs
    → (snapshot_blocks block es ≤ snapshot_blocks block fs) × (log_need block es ≤ log_need block fs)

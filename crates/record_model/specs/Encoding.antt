-- How records are written.
use Rattle.std.specs.Prelude.{ℕ, List, [], ◌∷◌, ◌++◌, length, map, flat_map, if◌then◌else◌}
use Rattle.record_model.specs.Numbers.{u32, u64, varint}
use Rattle.record_model.specs.declared.field.Field.{Field}
use Rattle.record_model.specs.declared.field.RecordKind.{RecordKind}
use Rattle.record_model.specs.declared.field.RecordKind.TheVariants as records
use Rattle.record_model.specs.declared.field.FieldKind.{FieldKind}
use Rattle.record_model.specs.declared.field.FieldKind.TheVariants as kinds
use Rattle.record_model.specs.declared.field.Field.TheVariants.{Id, Size, Hint, Piece, Time, Active, Sparse, Linked}
use Rattle.record_model.specs.declared.types.FileEntry.{FileEntry}
use Rattle.record_model.specs.declared.types.Record.{Record}
use Rattle.record_model.specs.declared.types.Record.TheVariants.{Snapshot, Update, Deletion, End, Replace}

-- a length, and that many bytes
abbrev pub slice : List ℕ → List ℕ
slice bytes = varint (length bytes) ++ bytes

-- the tag of a field
abbrev pub tag_of : Field → ℕ
tag_of (Id n) = 1
tag_of (Size n) = 3
tag_of (Hint n) = 4
tag_of (Piece e) = 5
tag_of (Time n) = 6
tag_of (Active n) = 7
tag_of Sparse = 8
tag_of (Linked name) = 9

-- the tag of a kind of field
abbrev pub kind_tag : FieldKind → ℕ
kind_tag kinds.Id = 1
kind_tag kinds.Size = 3
kind_tag kinds.Hint = 4
kind_tag kinds.Piece = 5
kind_tag kinds.Time = 6
kind_tag kinds.Active = 7
kind_tag kinds.Sparse = 8
kind_tag kinds.Linked = 9

-- the tag of a kind of record
abbrev pub record_tag : RecordKind → ℕ
record_tag records.Snapshot = 1
record_tag records.Update = 2
record_tag records.Deletion = 3
record_tag records.End = 4
record_tag records.Replace = 5

-- the bytes of a field's value
abbrev pub value_bytes : Field → List ℕ
value_bytes (Id n) = u64 n
value_bytes (Size n) = u64 n
value_bytes (Hint n) = u32 n
value_bytes (Piece e) = slice (u64 e.start ++ u64 e.len)
value_bytes (Time n) = u64 n
value_bytes (Active n) = u64 n
value_bytes Sparse = []
value_bytes (Linked name) = slice name

-- the bytes of a field
abbrev pub field_bytes : Field → List ℕ
field_bytes f = u32 (tag_of f) ++ value_bytes f

-- the fields of an entry in the order in which they are written
abbrev pub fields_of : FileEntry → List Field
fields_of e =
    Id e.id ∷ Size e.size ∷ Hint e.hint ∷ []
    ++ map Piece e.extents
    ++ Time e.time ∷ Active e.active ∷ []
    ++ (if e.sparse then Sparse ∷ [] else [])
    ++ map Linked e.names

-- the bytes of an entry
unfoldable pub entry_bytes : FileEntry → List ℕ
entry_bytes e = flat_map field_bytes (fields_of e)

-- the payload that the encoder writes for a record
unfoldable pub payload_of : Record → List ℕ
payload_of (Snapshot files) = u32 1 ++ slice (flat_map (λ e. slice (entry_bytes e)) files)
payload_of (Update e) = u32 2 ++ slice (entry_bytes e)
payload_of (Deletion id name) = u32 3 ++ slice (u64 id ++ slice name)
payload_of End = u32 4
payload_of (Replace e) = u32 5 ++ slice (entry_bytes e)

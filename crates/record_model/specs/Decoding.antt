-- Reading a payload from left to right, to a record or to the first fault.
use Rattle.std.specs.Prelude.{ℕ, zero, suc, ◌-◌, ◌^◌, List, [], ◌∷◌, ◌++◌, length, filter_map, Option, Some, None, unwrap_or, Result, Ok, Err, nat_lt, ◌==◌, if◌then◌else◌}
use Rattle.std.specs.Int.{w32, w64}
use Rattle.record_model.specs.Name.{is_name}
use Rattle.record_model.specs.Encoding.{tag_of}
use Rattle.record_model.specs.declared.field.Field.{Field}
use Rattle.record_model.specs.declared.field.Field.TheVariants.{Id, Size, Hint, Piece, Time, Active, Linked}
use Rattle.record_model.specs.declared.types.Extent.{Extent}
use Rattle.record_model.specs.declared.types.FileEntry.{FileEntry}
use Rattle.record_model.specs.declared.types.Record.{Record}
use Rattle.record_model.specs.declared.types.Record.TheVariants.{Snapshot, Update, Deletion, End, Replace}
use Rattle.record_model.specs.declared.field.RecordKind.{RecordKind}
use Rattle.record_model.specs.declared.field.RecordKind.TheVariants as kinds
use Rattle.record_model.specs.declared.fault.DecodeFault.{DecodeFault}
use Rattle.record_model.specs.declared.fault.Why.TheVariants.{Tag, Missing, Range}
use Rattle.record_model.specs.FieldDecoding.{Cursor, at_place, number, slice_at, ranged, has_tag, fields_at, ◌>>=◌}

-- the number of the one field with this tag
abbrev pub number_of : Field → Option ℕ
number_of (Id n) = Some n
number_of (Size n) = Some n
number_of (Hint n) = Some n
number_of (Time n) = Some n
number_of (Active n) = Some n
number_of _ = None

-- the number of the first field with this tag
abbrev pub number_in : ℕ → List Field → Option ℕ
number_in tag [] = None
number_in tag (f ∷ fs) = if tag_of f == tag then number_of f else number_in tag fs

-- the number of a field that is there
abbrev pub first_number : ℕ → List Field → ℕ
first_number tag fs = unwrap_or (number_in tag fs) 0

-- the extent of a field
abbrev pub piece_of : Field → Option Extent
piece_of (Piece e) = Some e
piece_of _ = None

-- the name of a field
abbrev pub name_of : Field → Option (List ℕ)
name_of (Linked name) = Some name
name_of _ = None

-- the entry that has these fields
abbrev pub entry_of : List Field → FileEntry
entry_of fs = record {
  id = first_number 1 fs;
  size = first_number 3 fs;
  hint = first_number 4 fs;
  time = first_number 6 fs;
  active = first_number 7 fs;
  sparse = has_tag 8 fs;
  extents = filter_map piece_of fs;
  names = filter_map name_of fs;
}

-- the least tag that an entry must have and these fields lack
abbrev pub missing_from : List ℕ → List Field → Option ℕ
missing_from [] fs = None
missing_from (tag ∷ tags) fs = if has_tag tag fs then missing_from tags fs else Some tag

-- the fields that each entry has
abbrev pub required_tags : List ℕ
required_tags = 1 ∷ 3 ∷ 4 ∷ 6 ∷ 7 ∷ 9 ∷ []

-- the entry of these fields, where none is missing
abbrev pub complete : ℕ → List Field → Option ℕ → Result FileEntry DecodeFault
complete at fs None = Ok (entry_of fs)
complete at fs (Some tag) = Err (record { at = at; why = Missing tag })

-- an entry that is all of the bytes
unfoldable pub entry_at : Cursor → Result FileEntry DecodeFault
entry_at c = do
  fs ← fields_at (length c.rest) [] c
  complete c.at fs (missing_from required_tags fs)

-- the inside of the slice here, and the place behind it
abbrev pub inside_at : Cursor → Result (Cursor × Cursor) DecodeFault
inside_at c = do
  s ← at_place c.at (slice_at c)
  Ok (record { at = s.1.at - length s.0; rest = s.0 }, s.1)

-- an entry that is the inside of a slice, and the place behind it
abbrev pub sliced_entry_at : Cursor → Result (FileEntry × Cursor) DecodeFault
sliced_entry_at c = do
  s ← inside_at c
  e ← entry_at s.0
  Ok (e, s.1)

-- slices to the end of the bytes, each an entry, behind those that were seen; each takes a byte, so k bounds them
abbrev pub entries_at : ℕ → List FileEntry → Cursor → Result (List FileEntry) DecodeFault
entries_at zero seen c = Ok seen
entries_at (suc k) seen c =
    if length c.rest == 0 then Ok seen else (do
      e ← sliced_entry_at c
      entries_at k (seen ++ e.0 ∷ []) e.1)

-- nothing may follow
abbrev pub ended : {A : Type 0} → A → Cursor → Result A DecodeFault
ended x c = if length c.rest == 0 then Ok x else Err (record { at = c.at; why = Range })

-- an id and a name, and no more
abbrev pub deletion_at : Cursor → Result Record DecodeFault
deletion_at c = do
  id ← at_place c.at (number w64 c)
  known ← at_place c.at (ranged (nat_lt id.0 (2 ^ 64 - 1)) id.0)
  s ← at_place id.1.at (slice_at id.1)
  name ← at_place id.1.at (ranged (is_name s.0) s.0)
  ended (Deletion known name) s.1

-- the kind of record that has this tag
abbrev pub record_kind_of : ℕ → Option RecordKind
record_kind_of tag =
    if tag == 1 then Some kinds.Snapshot else if tag == 2 then Some kinds.Update else if tag == 3 then Some kinds.Deletion
    else if tag == 4 then Some kinds.End else if tag == 5 then Some kinds.Replace else None

-- one slice, read by f, and nothing behind it
abbrev pub sliced : (Cursor → Result Record DecodeFault) → Cursor → Result Record DecodeFault
sliced f c = do
  s ← inside_at c
  r ← f s.0
  ended r s.1

-- a snapshot
abbrev pub snapshot_at : Cursor → Result Record DecodeFault
snapshot_at c = do
  files ← entries_at (length c.rest) [] c
  Ok (Snapshot files)

-- an update
abbrev pub update_at : Cursor → Result Record DecodeFault
update_at c = do
  e ← entry_at c
  Ok (Update e)

-- a replacement
abbrev pub replacement_at : Cursor → Result Record DecodeFault
replacement_at c = do
  e ← entry_at c
  Ok (Replace e)

-- the record behind a tag
abbrev pub record_with : ℕ → Option RecordKind → Cursor → Result Record DecodeFault
record_with tag None c = Err (record { at = 0; why = Tag tag })
record_with tag (Some kinds.Snapshot) c = sliced snapshot_at c
record_with tag (Some kinds.Update) c = sliced update_at c
record_with tag (Some kinds.Deletion) c = sliced deletion_at c
record_with tag (Some kinds.End) c = ended End c
record_with tag (Some kinds.Replace) c = sliced replacement_at c

-- the record that a payload spells, or its first fault from the left
unfoldable pub record_of : List ℕ → Result Record DecodeFault
record_of payload = do
  tag ← at_place 0 (number w32 (record { at = 0; rest = payload }))
  record_with tag.0 (record_kind_of tag.0) tag.1

-- The fields of an entry that were read so far, kept by kind.
use Rattle.std.specs.Prelude.{◌≡◌, ⊤, ℕ, Bool, true, false, List, [], ◌∷◌, ◌++◌, length, Option, Some, None, is_some, Result, Ok, Err, ◌==◌, if◌then◌else◌}
use Rattle.std.specs.List.{list_any}
use Rattle.std.specs.Option.{ok_or}
use Rattle.std.specs.Str.{bytes_eq}
use Rattle.record_model.specs.FieldDecoding.{◌>>=◌}
use Rattle.record_model.specs.declared.types.Extent.{Extent}
use Rattle.record_model.specs.declared.types.FileEntry.{FileEntry}
use Rattle.record_model.specs.declared.field.Field.{Field}
use Rattle.record_model.specs.declared.field.Field.TheVariants.{Id, Size, Hint, Piece, Time, Active, Sparse, Linked}
use Rattle.record_model.specs.declared.fault.DecodeFault.{DecodeFault}
use Rattle.record_model.specs.declared.fault.Why.TheVariants.{Missing}

-- the fields by kind: each number where it was read, and the extents and names in their order
pub record EntryDraft : Type 0 where
  pub id : Option ℕ
  pub size : Option ℕ
  pub hint : Option ℕ
  pub time : Option ℕ
  pub active : Option ℕ
  pub sparse : Bool
  pub extents : List Extent
  pub names : List (List ℕ)

-- no fields
abbrev pub empty_draft : EntryDraft
empty_draft = record { id = None; size = None; hint = None; time = None; active = None; sparse = false; extents = []; names = [] }

-- one field more
abbrev pub with_field : Field → EntryDraft → EntryDraft
with_field (Id n) d = record d { id = Some n }
with_field (Size n) d = record d { size = Some n }
with_field (Hint n) d = record d { hint = Some n }
with_field (Piece e) d = record d { extents = d.extents ++ e ∷ [] }
with_field (Time n) d = record d { time = Some n }
with_field (Active n) d = record d { active = Some n }
with_field Sparse d = record d { sparse = true }
with_field (Linked name) d = record d { names = d.names ++ name ∷ [] }

-- a name has this text
abbrev pub IsTextOf : Field → List ℕ → Type 0
IsTextOf (Linked name) text = name ≡ text
IsTextOf _ text = ⊤

-- a field with this tag that may stand once is there
abbrev pub has_drafted_tag : ℕ → EntryDraft → Bool
has_drafted_tag tag d =
    if tag == 1 then is_some d.id else if tag == 3 then is_some d.size else if tag == 4 then is_some d.hint
    else if tag == 6 then is_some d.time else if tag == 7 then is_some d.active else if tag == 8 then d.sparse else false

-- this name is there
abbrev pub has_drafted_name : List ℕ → EntryDraft → Bool
has_drafted_name name d = list_any (bytes_eq name) d.names

-- the fault of an entry in which the field with this tag is wanting
abbrev pub missing : ℕ → ℕ → DecodeFault
missing at tag = record { at = at; why = Missing tag }

-- a field that each entry has
abbrev pub required : {A : Type 0} → ℕ → ℕ → Option A → Result A DecodeFault
required at tag number = ok_or number (missing at tag)

-- the entry that has these fields, or the least tag that is wanting
unfoldable pub finished : ℕ → EntryDraft → Result FileEntry DecodeFault
finished at d = do
  id ← required at 1 d.id
  size ← required at 3 d.size
  hint ← required at 4 d.hint
  time ← required at 6 d.time
  active ← required at 7 d.active
  if length d.names == 0 then Err (missing at 9) else Ok (record {
    id = id;
    size = size;
    hint = hint;
    time = time;
    active = active;
    sparse = d.sparse;
    extents = d.extents;
    names = d.names;
  })

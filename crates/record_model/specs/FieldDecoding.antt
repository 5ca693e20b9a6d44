-- Reading the fields of an entry from left to right, to the first fault.
use Rattle.std.specs.Prelude.{ℕ, zero, suc, ◌+◌, ◌*◌, ◌-◌, ◌^◌, Bool, false, not, ◌&&◌, ◌||◌, List, [], ◌∷◌, ◌++◌, length, take, drop, Option, Some, None, Result, Ok, Err, nat_lt, nat_le, ◌==◌, if◌then◌else◌}
use Rattle.std.specs.List.{list_any}
use Rattle.std.specs.Str.{bytes_eq}
use Rattle.std.specs.Int.{Width, w32, w64, byte_len, from_le_bytes}
use Rattle.record_model.specs.Name.{is_name}
use Rattle.record_model.specs.Numbers.{varint}
use Rattle.record_model.specs.Encoding.{tag_of}
use Rattle.record_model.specs.declared.field.Field.{Field}
use Rattle.record_model.specs.declared.field.FieldKind.{FieldKind}
use Rattle.record_model.specs.declared.field.FieldKind.TheVariants as kinds
use Rattle.record_model.specs.declared.field.Field.TheVariants.{Id, Size, Hint, Piece, Time, Active, Sparse, Linked}
use Rattle.record_model.specs.declared.types.Extent.{Extent}
use Rattle.record_model.specs.declared.fault.DecodeFault.{DecodeFault}
use Rattle.record_model.specs.declared.fault.Why.{Why}
use Rattle.record_model.specs.declared.fault.Why.TheVariants.{Short, Tag, Twice, Range}

-- goes on with what was read, or keeps the fault
infixl 10 ◌>>=◌
abbrev pub ◌>>=◌ : {E A B : Type 0} → Result A E → (A → Result B E) → Result B E
(Ok x) >>= f = f x
(Err e) >>= f = Err e

-- a place in a payload, and the bytes from there
pub record Cursor : Type 0 where
  pub at : ℕ
  pub rest : List ℕ

-- a cursor that many bytes further
abbrev pub advance : ℕ → Cursor → Cursor
advance n c = record { at = c.at + n; rest = drop n c.rest }

-- what reads a value gives it with the place behind it; a fault of its own has no place yet
abbrev pub Reads : Type 0 → Type 0
Reads A = Result (A × Cursor) Why

-- puts a fault at a place
abbrev pub at_place : {A : Type 0} → ℕ → Result A Why → Result A DecodeFault
at_place n (Ok x) = Ok x
at_place n (Err why) = Err (record { at = n; why = why })

-- a number of fixed width
abbrev pub number : Width → Cursor → Reads ℕ
number w c =
    if nat_lt (length c.rest) (byte_len w) then Err Short
    else Ok (from_le_bytes w (take (byte_len w) c.rest), advance (byte_len w) c)

-- a varint with one more byte in front
abbrev pub behind_byte : ℕ → Option (ℕ × ℕ) → Option (ℕ × ℕ)
behind_byte b None = None
behind_byte b (Some v) = Some ((b - 128) + 128 * v.0, v.1 + 1)

-- the value of a varint's bytes, and how many they are; none where the last one is missing
abbrev pub varint_at : List ℕ → Option (ℕ × ℕ)
varint_at [] = None
varint_at (b ∷ bs) = if nat_lt b 128 then Some (b, 1) else behind_byte b (varint_at bs)

-- the length that a varint states, in the shortest form and below 2 ^ 32, and how many bytes it takes
abbrev pub length_in : Option (ℕ × ℕ) → Result (ℕ × ℕ) Why
length_in None = Err Short
length_in (Some v) = if nat_le (2 ^ 32) v.0 || not (length (varint v.0) == v.1) then Err Range else Ok v

-- a slice: its length, and that many bytes
unfoldable pub slice_at : Cursor → Reads (List ℕ)
slice_at c = do
  v ← length_in (varint_at c.rest)
  if nat_lt (length c.rest) (v.1 + v.0) then Err Short
      else Ok (take v.0 (drop v.1 c.rest), advance (v.1 + v.0) c)

-- a value in its range
abbrev pub ranged : {A : Type 0} → Bool → A → Result A Why
ranged ok x = if ok then Ok x else Err Range

-- a field with this tag is there
abbrev pub has_tag : ℕ → List Field → Bool
has_tag tag fields = list_any (λ f. tag_of f == tag) fields

-- what may stand once, where it is there already
abbrev pub once : ℕ → Bool → Result ℕ Why
once tag there = if there then Err (Twice tag) else Ok tag

-- a field with this name
abbrev pub is_linked : List ℕ → Field → Bool
is_linked name (Linked other) = bytes_eq name other
is_linked name _ = false

-- a field with this name is there
abbrev pub has_name : List ℕ → List Field → Bool
has_name name fields = list_any (is_linked name) fields

-- a number that may stand once
abbrev pub single : Width → ℕ → Bool → Cursor → Reads ℕ
single w tag there c = do
  n ← number w c
  t ← once tag there
  Ok n

-- an extent of sixteen bytes
abbrev pub extent_of : List ℕ → Extent
extent_of bytes = record { start = from_le_bytes w64 (take 8 bytes); len = from_le_bytes w64 (drop 8 bytes) }

-- an extent that has a byte
abbrev pub piece_at : Cursor → Reads Field
piece_at c = do
  s ← slice_at c
  bytes ← ranged ((length s.0 == 16) && nat_lt 0 (from_le_bytes w64 (drop 8 s.0))) s.0
  Ok (Piece (extent_of bytes), s.1)

-- a name, where this tells the names that are there already
abbrev pub name_at : (List ℕ → Bool) → Cursor → Reads Field
name_at there c = do
  s ← slice_at c
  t ← once 9 (there s.0)
  name ← ranged (is_name s.0) s.0
  Ok (Linked name, s.1)

-- the kind of field that has this tag
abbrev pub kind_of : ℕ → Option FieldKind
kind_of tag =
    if tag == 1 then Some kinds.Id else if tag == 3 then Some kinds.Size else if tag == 4 then Some kinds.Hint
    else if tag == 5 then Some kinds.Piece else if tag == 6 then Some kinds.Time else if tag == 7 then Some kinds.Active
    else if tag == 8 then Some kinds.Sparse else if tag == 9 then Some kinds.Linked else None

-- the value of a field of this kind, where these tests tell the tags and the names that stand before it
abbrev pub value_at : FieldKind → (ℕ → Bool) → (List ℕ → Bool) → Cursor → Reads Field
value_at kinds.Id there named c = do
  n ← single w64 1 (there 1) c
  id ← ranged (nat_lt n.0 (2 ^ 64 - 1)) n.0
  Ok (Id id, n.1)
value_at kinds.Size there named c = do
  n ← single w64 3 (there 3) c
  Ok (Size n.0, n.1)
value_at kinds.Hint there named c = do
  n ← single w32 4 (there 4) c
  hint ← ranged (nat_le n.0 5) n.0
  Ok (Hint hint, n.1)
value_at kinds.Piece there named c = piece_at c
value_at kinds.Time there named c = do
  n ← single w64 6 (there 6) c
  Ok (Time n.0, n.1)
value_at kinds.Active there named c = do
  n ← single w64 7 (there 7) c
  Ok (Active n.0, n.1)
value_at kinds.Sparse there named c = do
  t ← once 8 (there 8)
  Ok (Sparse, c)
value_at kinds.Linked there named c = name_at named c

-- the value behind a tag that is known
abbrev pub known_value : ℕ → Option FieldKind → (ℕ → Bool) → (List ℕ → Bool) → Cursor → Reads Field
known_value tag None there named c = Err (Tag tag)
known_value tag (Some kind) there named c = value_at kind there named c

-- a whole field, by the same tests
abbrev pub field_by : (ℕ → Bool) → (List ℕ → Bool) → Cursor → Reads Field
field_by there named c = do
  tag ← number w32 c
  known_value tag.0 (kind_of tag.0) there named tag.1

-- a whole field, where these fields stand before it
abbrev pub field_at : List Field → Cursor → Reads Field
field_at seen c = field_by (λ tag. has_tag tag seen) (λ name. has_name name seen) c

-- the fields to the end of the bytes, behind those that were seen; each takes at least four bytes, so k bounds them
abbrev pub fields_at : ℕ → List Field → Cursor → Result (List Field) DecodeFault
fields_at zero seen c = Ok seen
fields_at (suc k) seen c =
    if length c.rest == 0 then Ok seen else (do
      f ← at_place c.at (field_at seen c)
      fields_at k (seen ++ f.0 ∷ []) f.1)

-- Which payloads spell a record: the grammar, apart from how they are read.
use Rattle.std.specs.Prelude.{◌≡◌, ℕ, ◌<◌, ◌≤◌, ◌^◌, ◌-◌, ⊤, List, [], ◌∷◌, ◌++◌, length, flat_map, IsTrue, ◌≢◌}
use Rattle.std.specs.List.{AllByRecursion, list_all}
use Rattle.record_model.specs.Name.{is_name}
use Rattle.record_model.specs.Numbers.{u32, u64}
use Rattle.record_model.specs.Encoding.{tag_of, field_bytes, slice}
use Rattle.record_model.specs.declared.field.Field.{Field}
use Rattle.record_model.specs.declared.field.Field.TheVariants.{Id, Size, Hint, Piece, Time, Active, Sparse, Linked}
use Rattle.record_model.specs.FieldDecoding.{has_tag}
use Rattle.record_model.specs.Decoding.{entry_of, required_tags}
use Rattle.record_model.specs.declared.types.Extent.{Extent}
use Rattle.record_model.specs.declared.types.FileEntry.{FileEntry}
use Rattle.record_model.specs.declared.types.Record.{Record}
use Rattle.record_model.specs.declared.types.Record.TheVariants.{Snapshot, Update, Deletion, End, Replace}

-- a field's value is in its range
abbrev pub IsField : Field → Type 0
IsField (Id n) = n < 2 ^ 64 - 1
IsField (Size n) = n < 2 ^ 64
IsField (Hint n) = n ≤ 5
IsField (Piece e) = (e.start < 2 ^ 64) × (0 < e.len) × (e.len < 2 ^ 64)
IsField (Time n) = n < 2 ^ 64
IsField (Active n) = n < 2 ^ 64
IsField Sparse = ⊤
IsField (Linked name) = IsTrue (is_name name)

-- may come behind these fields: a name that isn't there, any extent, and else a tag that isn't there
abbrev pub MayFollow : List Field → Field → Type 0
MayFollow seen (Piece e) = ⊤
MayFollow seen (Linked name) = AllByRecursion (λ f. f ≢ Linked name) seen
MayFollow seen f = AllByRecursion (λ g. tag_of g ≢ tag_of f) seen

-- fields that may stand in this order, behind those that were seen
abbrev pub AreFields : List Field → List Field → Type 0
AreFields seen [] = ⊤
AreFields seen (f ∷ fs) = IsField f × MayFollow seen f × AreFields (seen ++ f ∷ []) fs

-- the bytes are fields in any order, each as often as it may stand, and the entry has what they say
abbrev pub IsEntry : List ℕ → FileEntry → Type 0
IsEntry bytes e =
    (fs : List Field) × (bytes ≡ flat_map field_bytes fs) × AreFields [] fs
    × IsTrue (list_all (λ tag. has_tag tag fs) required_tags) × (e ≡ entry_of fs)

-- slices one after another, an entry each
abbrev pub AreEntries : List ℕ → List FileEntry → Type 0
AreEntries bytes [] = bytes ≡ []
AreEntries bytes (e ∷ es) =
    (content rest : List ℕ) × (length content < 2 ^ 32) × (bytes ≡ slice content ++ rest) × IsEntry content e × AreEntries rest es

-- the payload spells the record
abbrev pub Spells : List ℕ → Record → Type 0
Spells payload (Snapshot files) = (body : List ℕ) × (length body < 2 ^ 32) × (payload ≡ u32 1 ++ slice body) × AreEntries body files
Spells payload (Update e) = (body : List ℕ) × (length body < 2 ^ 32) × (payload ≡ u32 2 ++ slice body) × IsEntry body e
Spells payload (Deletion id name) = (id < 2 ^ 64 - 1) × IsTrue (is_name name) × (payload ≡ u32 3 ++ slice (u64 id ++ slice name))
Spells payload End = payload ≡ u32 4
Spells payload (Replace e) = (body : List ℕ) × (length body < 2 ^ 32) × (payload ≡ u32 5 ++ slice body) × IsEntry body e

-- an extent that has a byte
abbrev pub IsExtent : Extent → Type 0
IsExtent e = IsField (Piece e)

-- no name stands twice
abbrev pub AreApart : List (List ℕ) → Type 0
AreApart [] = ⊤
AreApart (name ∷ names) = AllByRecursion (λ other. other ≢ name) names × AreApart names

-- an entry that can be written: each value in its range, a name at least, and none twice
pub record IsWritable (e : FileEntry) : Type 0 where
  pub id : e.id < 2 ^ 64 - 1
  pub size : e.size < 2 ^ 64
  pub hint : e.hint ≤ 5
  pub time : e.time < 2 ^ 64
  pub active : e.active < 2 ^ 64
  pub extents : AllByRecursion IsExtent e.extents
  pub names : AllByRecursion (λ name. IsTrue (is_name name)) e.names
  pub named : 0 < length e.names
  pub apart : AreApart e.names

-- a record that some payload spells
abbrev pub InGrammar : Record → Type 0
InGrammar (Snapshot files) = AllByRecursion IsWritable files
InGrammar (Update e) = IsWritable e
InGrammar (Deletion id name) = (id < 2 ^ 64 - 1) × IsTrue (is_name name)
InGrammar End = ⊤
InGrammar (Replace e) = IsWritable e

-- What a record makes of a table, its change makes of the tree.
use Rattle.std.specs.Prelude.{◌≡◌, ◌≢◌, ℕ, ◌+◌, ◌<◌, ◌≤◌, ⊤, Bool, true, false, List, [], ◌∷◌, ◌++◌, Some, None, Ok}
use Rattle.std.specs.List.{AllByRecursion}
use Rattle.zone_image.specs.Image.{Image}
use Rattle.record_model.specs.declared.types.Extent.{Extent}
use Rattle.record_model.specs.declared.types.FileEntry.{FileEntry}
use Rattle.record_model.specs.declared.types.Record.{Record}
use Rattle.record_model.specs.declared.types.Record.TheVariants.{Snapshot, Update, Deletion, End, Replace}
use Rattle.log_model.specs.FileTable.{Table, file_of, is_among, is_named, shares_name, has_right_size, size_of, after_record}
use Rattle.log_model.specs.FileTree.{Change, apply, id_of, renamed}
use Rattle.log_model.specs.FileTree.Change.{Create, Grow, Link, Rename, Unlink}
use Rattle.log_model.specs.Frames.{no_active, bytes_of}
use Rattle.log_model.specs.Mounted.{tree_of}

-- the ids rise, from this number on
abbrev pub IdsRise : ℕ → Table → Type 0
IdsRise from [] = ⊤
IdsRise from (e ∷ es) = (from ≤ e.id) × IdsRise (e.id + 1) es

-- the ids rise, each file has a name, and no file has a name of another one
pub record IsTable (es : Table) : Type 0 where
  pub ids : IdsRise 0 es
  pub named : AllByRecursion (λ e. is_named e ≡ true) es
  pub apart : (e : FileEntry) → file_of e.id es ≡ Some e → AllByRecursion (λ f. f.id ≢ e.id → shares_name e f ≡ false) es

-- no file has this name
abbrev pub IsUnused : List ℕ → Table → Type 0
IsUnused name es = AllByRecursion (λ f. is_among f.names name ≡ false) es

-- the name is this file's
pub record IsNameOf (i : Image) (es : Table) (name : List ℕ) (e : FileEntry) : Type 0 where
  pub found : id_of name (tree_of i es) ≡ Some e.id
  pub entry : file_of e.id es ≡ Some e
  pub among : is_among e.names name ≡ true

-- the record replays, and the tree is then as after the change
pub record ReplaysAs (i : Image) (es : Table) (r : Record) (c : Change) : Type 0 where
  pub next : Table
  pub replayed : after_record r es ≡ Ok next
  pub tree : tree_of i next ≡ apply c (tree_of i es)

-- the entry of a new file
abbrev pub created : ℕ → List ℕ → ℕ → Bool → ℕ → FileEntry
created id name hint sparse time = record { id = id; size = 0; hint = hint; time = time; active = no_active; sparse = sparse; extents = []; names = name ∷ [] }

-- the update with which a file gets these names
abbrev pub with_names : FileEntry → List (List ℕ) → FileEntry
with_names e names = record e { extents = []; names = names }

-- the update with which a file gets more extents
abbrev pub with_extents : FileEntry → List Extent → ℕ → ℕ → FileEntry
with_extents e added time active = record e { size = e.size + size_of added; time = time; active = active; extents = added }

-- the update of a new file creates it
abbrev pub CreateIsReplayed : Type 0
CreateIsReplayed = (i : Image) (es : Table) (id : ℕ) (name : List ℕ) (hint : ℕ) (sparse : Bool) (time : ℕ) → IsTable es
    → AllByRecursion (λ f. f.id < id) es → IsUnused name es
    → ReplaysAs i es (Update (created id name hint sparse time)) (Create name id hint sparse time)

-- the update with one more name links it
abbrev pub LinkIsReplayed : Type 0
LinkIsReplayed = (i : Image) (es : Table) (e : FileEntry) (old new : List ℕ) → IsTable es → IsNameOf i es old e → has_right_size e ≡ true
    → IsUnused new es → ReplaysAs i es (Update (with_names e (e.names ++ new ∷ []))) (Link old new)

-- the update with a name in place of another renames it
abbrev pub RenameIsReplayed : Type 0
RenameIsReplayed = (i : Image) (es : Table) (e : FileEntry) (old new : List ℕ) → IsTable es → IsNameOf i es old e → has_right_size e ≡ true
    → IsUnused new es → id_of new (tree_of i es) ≡ None → ReplaysAs i es (Update (with_names e (renamed old new e.names))) (Rename old new)

-- the same where the new name is taken from another file
abbrev pub RenameOverIsReplayed : Type 0
RenameOverIsReplayed = (i : Image) (es : Table) (e other : FileEntry) (old new : List ℕ) → IsTable es → IsNameOf i es old e → has_right_size e ≡ true
    → IsNameOf i es new other → e.id ≢ other.id → is_among e.names new ≡ false
    → ReplaysAs i es (Update (with_names e (renamed old new e.names))) (Rename old new)

-- a deletion takes the name away
abbrev pub DeleteIsReplayed : Type 0
DeleteIsReplayed = (i : Image) (es : Table) (e : FileEntry) (name : List ℕ) → IsNameOf i es name e → ReplaysAs i es (Deletion e.id name) (Unlink name)

-- an update with more extents grows the file
abbrev pub GrowIsReplayed : Type 0
GrowIsReplayed = (i : Image) (es : Table) (e : FileEntry) (added : List Extent) (time active : ℕ) → IsTable es → file_of e.id es ≡ Some e → has_right_size e ≡ true
    → ReplaysAs i es (Update (with_extents e added time active)) (Grow e.id (bytes_of i (e.extents ++ added)) time)

-- a replacement by extents of the same bytes changes no tree
abbrev pub ReplaceKeepsTree : Type 0
ReplaceKeepsTree = (i : Image) (es : Table) (e : FileEntry) (moved : List Extent) → IsTable es → file_of e.id es ≡ Some e
    → e.size ≡ size_of moved → bytes_of i moved ≡ bytes_of i e.extents
    → (next : Table) × (after_record (Replace (record e { extents = moved })) es ≡ Ok next) × (tree_of i next ≡ tree_of i es)

-- each entry of a record has a name, as every record that decodes has it
abbrev pub IsNamedRecord : Record → Type 0
IsNamedRecord (Snapshot files) = AllByRecursion (λ e. is_named e ≡ true) files
IsNamedRecord (Update e) = is_named e ≡ true
IsNamedRecord (Deletion id name) = ⊤
IsNamedRecord End = ⊤
IsNamedRecord (Replace e) = is_named e ≡ true

-- each stated size is that of the file's extents
abbrev pub AreSized : Table → Type 0
AreSized es = AllByRecursion (λ e. has_right_size e ≡ true) es

-- a record makes a table of a table
abbrev pub RecordKeepsTable : Type 0
RecordKeepsTable = (es next : Table) (r : Record) → IsTable es → IsNamedRecord r → after_record r es ≡ Ok next → IsTable next

-- a record keeps the sizes right
abbrev pub RecordKeepsSizes : Type 0
RecordKeepsSizes = (es next : Table) (r : Record) → AreSized es → after_record r es ≡ Ok next → AreSized next

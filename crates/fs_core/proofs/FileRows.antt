-- The rows of files that are found by a name, and the bytes that are read of them.
use Rattle.std.proofs.Common.{◌≡◌, ℕ, ◌+◌, ◌-◌, ◌≤◌, Bool, true, false, cond, List, [], ◌∷◌, take, drop, Option, Some, None, option_map, refl, sym, ◌∙◌, ap, subst, arith, append-nil}
use Rattle.std.specs.Prelude.{◌==◌}
use Rattle.std.specs.List.{All}
use Rattle.std.proofs.lemmas.List.{drop-take, take-take}
use Rattle.zone_image.specs.declared.Geometry.{Geometry}
use Rattle.zone_image.specs.declared.ZoneInfo.{ZoneInfo}
use Rattle.log_model.specs.FileTable.{Table}
use Rattle.log_model.specs.Mounted.{all_extents}
use Rattle.log_model.specs.TableLaws.{IdsRise}
use Rattle.fs_model.specs.FsState.{TableRow, mounted_row, row_named, row_of}
use Rattle.extent_map.specs.Applying.{rows_of}
use Rattle.extent_map.specs.Lookups.{id_named}
use Rattle.extent_map.specs.Records.{recorded_of}
use Rattle.extent_map.proofs.LinkLaws.{found_by_id}
use Rattle.mount_replay.specs.Rules.{IsWrittenExtent}
use Rattle.mount_replay.proofs.FilledLaws.{all_first, all_rest}
use Rattle.fs_core.specs.Reading.{IsWrittenRow}

pub some_id : {m n : ℕ} → ◌≡◌ {A = Option ℕ} (Some m) (Some n) → m ≡ n
some_id is = cc

some_row : {q r : TableRow} → ◌≡◌ {A = Option TableRow} (Some q) (Some r) → q ≡ r
some_row is = cc

-- the file of a name, which is that of its id
pub named_row : (name : List ℕ) (id : ℕ) (rows : List TableRow) → IdsRise 0 (recorded_of rows) → id_named name rows ≡ Some id
    → (r : TableRow) × (row_named name rows ≡ Some r) × (row_of id rows ≡ Some r)
named_row name id rows rise found = go (row_named name rows) refl found
  where
    go : (o : Option TableRow) → row_named name rows ≡ o → option_map (λ r. r.entry.id) o ≡ Some id → (r : TableRow) × (row_named name rows ≡ Some r) × (row_of id rows ≡ Some r)
    go None is same = cc
    go (Some r) is same = (r, is, ap (λ (n : ℕ). row_of n rows) (sym (some_id same)) ∙ found_by_id 0 name rows r rise is)

pub unnamed_row : (name : List ℕ) (rows : List TableRow) → id_named name rows ≡ None → row_named name rows ≡ None
unnamed_row name rows none = go (row_named name rows) refl none
  where
    go : (o : Option TableRow) → row_named name rows ≡ o → option_map (λ r. r.entry.id) o ≡ None → row_named name rows ≡ None
    go None is same = is
    go (Some r) is same = cc

-- how many bytes of a file are shown
abbrev pub shown_of : ℕ → List TableRow → Option ℕ
shown_of id rows = option_map (λ r. r.shown) (row_of id rows)

pub none_is : (o : Option ℕ) (n : ℕ) → o ≡ Some n → o ≡ None → ⊥
none_is o n some none = no_some (sym some ∙ none)
  where
    no_some : ◌≡◌ {A = Option ℕ} (Some n) None → ⊥
    no_some is = cc

pub row_shown : (id : ℕ) (rows : List TableRow) (r : TableRow) (o : Option ℕ) → row_of id rows ≡ Some r → o ≡ shown_of id rows → o ≡ Some r.shown
row_shown id rows r o found is = is ∙ ap (option_map (λ q. q.shown)) found

-- where all extents of a table are written, those of each file are
pub written_row : (g : Geometry) (infos : List ZoneInfo) (es : Table) (id : ℕ) (r : TableRow) → All (IsWrittenExtent g infos) (all_extents es) → row_of id (rows_of es) ≡ Some r → IsWrittenRow g infos r
written_row g infos [] id r all is = cc
written_row g infos (e ∷ es) id r all is =
    go (e.id == id) is (λ later. written_row g infos es id r (all_rest (IsWrittenExtent g infos) e.extents (all_extents es) all) later)
  where
    go : (c : Bool) → cond c (Some (mounted_row e)) (row_of id (rows_of es)) ≡ Some r → (row_of id (rows_of es) ≡ Some r → IsWrittenRow g infos r) → IsWrittenRow g infos r
    go true same others =
        subst (IsWrittenRow g infos) (some_row same)
        (subst (All (IsWrittenExtent g infos)) (sym (append-nil e.extents)) (all_first (IsWrittenExtent g infos) e.extents (all_extents es) all))
    go false same others = others same

-- bytes that are shown are among all bytes
pub shown_bytes : (count offset shown : ℕ) (all : List ℕ) → offset + count ≤ shown → take count (drop offset all) ≡ take count (drop offset (take shown all))
shown_bytes count offset shown all le =
    let split : offset + (shown - offset) ≡ shown = omega (arith, le) in
    sym (take-take count (shown - offset) (drop offset all) (omega (arith, le)))
    ∙ ap (take count) (sym (drop-take offset (shown - offset) all))
    ∙ ap (λ (n : ℕ). take count (drop offset (take n all))) split

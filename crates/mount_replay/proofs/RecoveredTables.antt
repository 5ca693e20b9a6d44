-- A table whose files get other extents and sizes stays a table.
use Rattle.std.proofs.Common.{◌≡◌, ◌≢◌, ℕ, ◌+◌, Bool, true, false, cond, List, [], ◌∷◌, map, Option, Some, None, option_map, refl, sym, ◌∙◌, ap, subst}
use Rattle.std.specs.Prelude.{◌==◌}
use Rattle.std.specs.List.{AllByRecursion, AllZip}
use Rattle.zone_image.specs.declared.Geometry.{Geometry}
use Rattle.zone_image.specs.declared.ZoneInfo.{ZoneInfo}
use Rattle.zone_image.specs.Image.{Image}
use Rattle.record_model.specs.declared.types.FileEntry.{FileEntry}
use Rattle.log_model.specs.FileTable.{Table, file_of, shares_name}
use Rattle.log_model.specs.TableLaws.{IdsRise, IsTable}
use Rattle.log_model.proofs.SelectionLaws.{some_is}
use Rattle.mount_replay.specs.Recovering.{IsFound, sized}

-- an entry without its bytes
abbrev bare : FileEntry → FileEntry
bare e = record e { extents = []; size = 0 }

-- ---- its ids and names are those of the table without bytes

ids_to_bare : (from : ℕ) (es : Table) → IdsRise from es → IdsRise from (map bare es)
ids_to_bare from [] rise = tt
ids_to_bare from (e ∷ es) rise = (rise.0, ids_to_bare (e.id + 1) es rise.1)

ids_from_bare : (from : ℕ) (es : Table) → IdsRise from (map bare es) → IdsRise from es
ids_from_bare from [] rise = tt
ids_from_bare from (e ∷ es) rise = (rise.0, ids_from_bare (e.id + 1) es rise.1)

all_to_bare : (P : FileEntry → Type 0) (es : Table) → AllByRecursion (λ e. P (bare e)) es → AllByRecursion P (map bare es)
all_to_bare P [] all = tt
all_to_bare P (e ∷ es) all = (all.0, all_to_bare P es all.1)

all_from_bare : (P : FileEntry → Type 0) (es : Table) → AllByRecursion P (map bare es) → AllByRecursion (λ e. P (bare e)) es
all_from_bare P [] all = tt
all_from_bare P (e ∷ es) all = (all.0, all_from_bare P es all.1)

bare_head : (c : Bool) (e : FileEntry) (rest old : Option FileEntry) → rest ≡ option_map bare old → cond c (Some (bare e)) rest ≡ option_map bare (cond c (Some e) old)
bare_head true e rest old same = refl
bare_head false e rest old same = same

bare_file : (id : ℕ) (es : Table) → file_of id (map bare es) ≡ option_map bare (file_of id es)
bare_file id [] = refl
bare_file id (e ∷ es) = bare_head (e.id == id) e (file_of id (map bare es)) (file_of id es) (bare_file id es)

-- the names of a file stay apart from those of others
apart_to_bare : (es : Table) (e : FileEntry) (o : Option FileEntry) → IsTable es → file_of e.id es ≡ o → option_map bare o ≡ Some e → AllByRecursion (λ f. f.id ≢ e.id → shares_name e f ≡ false) (map bare es)
apart_to_bare es e None table found is = cc
apart_to_bare es e (Some x) table found is =
    let same : bare x ≡ e = some_is is in
    let here : file_of x.id es ≡ Some x = ap (λ id. file_of id es) (ap (λ (f : FileEntry). f.id) same) ∙ found in
    subst (λ (y : FileEntry). AllByRecursion (λ f. f.id ≢ y.id → shares_name y f ≡ false) (map bare es)) same
    (all_to_bare (λ f. f.id ≢ x.id → shares_name (bare x) f ≡ false) es (table.apart x here))

table_to_bare : (es : Table) → IsTable es → IsTable (map bare es)
table_to_bare es table = record {
  ids = ids_to_bare 0 es table.ids;
  named = all_to_bare _ es table.named;
  apart = λ e found. apart_to_bare es e (file_of e.id es) table refl (sym (bare_file e.id es) ∙ found);
}

table_from_bare : (es : Table) → IsTable (map bare es) → IsTable es
table_from_bare es table = record {
  ids = ids_from_bare 0 es table.ids;
  named = all_from_bare _ es table.named;
  apart = λ e found. all_from_bare (λ f. f.id ≢ e.id → shares_name (bare e) f ≡ false) es (table.apart (bare e) (bare_file e.id es ∙ ap (option_map bare) found));
}

-- ---- what is found again

module _ (told : Type 0) (g : Geometry) (infos : List ZoneInfo) (i : Image) where
  bare_found : (xs ys : Table) → AllZip (IsFound told g infos i) xs ys → map bare xs ≡ map bare (map sized ys)
  bare_found [] [] all = refl
  bare_found [] (y ∷ ys) all = absurd all
  bare_found (x ∷ xs) [] all = absurd all
  bare_found (x ∷ xs) (y ∷ ys) all =
      ap (λ (e : FileEntry). e ∷ map bare xs) (sym (ap bare all.0.same)) ∙ ap (λ (es : Table). bare y ∷ es) (bare_found xs ys all.1)

  pub found_is_table : (xs ys : Table) → AllZip (IsFound told g infos i) xs ys → IsTable xs → IsTable (map sized ys)
  found_is_table xs ys all table = table_from_bare (map sized ys) (subst IsTable (bare_found xs ys all) (table_to_bare xs table))

-- A table on an image that keeps the first blocks of each zone.
use Rattle.std.specs.Prelude.{◌≡◌, ℕ, ◌<◌, Bool, true, false, not, ◌||◌, cond, List, [], ◌∷◌, ◌++◌, map, Option, Some, None, ◌==◌, if◌then◌else◌, refl}
use Rattle.std.proofs.Common.{◌∙◌, ap, subst}
use Rattle.std.proofs.lemmas.Bool.{and_parts, or_parts, or_from}
use Rattle.std.specs.List.{AllByRecursion, list_all, list_any}
use mathlib.Core.List.{IsPrefix}
use Rattle.zone_image.specs.Image.{Image, zone_of}
use Rattle.record_model.specs.declared.types.Extent.{Extent}
use Rattle.record_model.specs.declared.types.FileEntry.{FileEntry}
use Rattle.log_model.specs.FileTable.{Table}
use Rattle.log_model.specs.Frames.{no_active, is_recovery_point, recovered_extents, frames_at, rest_at}
use Rattle.log_model.specs.Mounted.{is_written, share_a_byte, overlap, all_extents, recovered_entry, has_valid_recovery_point}
use Rattle.log_model.specs.MountLaws.{KeepsFronts, SparseAlone, KeptTableStays}
use Rattle.log_model.proofs.FrameLaws.{frames_stay_in_order}

-- some of the extents, in their order
pub data SomeOf : List Extent → List Extent → Type 0 where
  none : SomeOf [] []
  without : {x : Extent} {xs ys : List Extent} → SomeOf xs ys → SomeOf xs (x ∷ ys)
  with : {x : Extent} {xs ys : List Extent} → SomeOf xs ys → SomeOf (x ∷ xs) (x ∷ ys)

-- none of them
none_of : (ys : List Extent) → SomeOf [] ys
none_of [] = none
none_of (y ∷ ys) = without (none_of ys)

-- the first of them
front_of : (xs rest : List Extent) → SomeOf xs (xs ++ rest)
front_of [] rest = none_of rest
front_of (x ∷ xs) rest = with (front_of xs rest)

-- all of them, and some of others
behind_all : (front xs ys : List Extent) → SomeOf xs ys → SomeOf (front ++ xs) (front ++ ys)
behind_all [] xs ys h = h
behind_all (x ∷ front) xs ys h = with (behind_all front xs ys h)

-- some of joined lists
some_append : {xs ys : List Extent} (cs ds : List Extent) → SomeOf xs ys → SomeOf cs ds → SomeOf (xs ++ cs) (ys ++ ds)
some_append cs ds none g = g
some_append cs ds (without h) g = without (some_append cs ds h g)
some_append cs ds (with h) g = with (some_append cs ds h g)

-- what none passes, none of some passes
any_some : {xs ys : List Extent} (q : Extent → Bool) → SomeOf xs ys → list_any q ys ≡ false → list_any q xs ≡ false
any_some q none h = h
any_some q (without {x = x} {ys = ys} s) h = any_some q s (or_parts (q x) (list_any q ys) h).1
any_some q (with {x = x} {xs = xs} {ys = ys} s) h =
    let parts = or_parts (q x) (list_any q ys) h in or_from (q x) (list_any q xs) parts.0 (any_some q s parts.1)

-- of extents that share no byte, some share none
pub overlap_some : {xs ys : List Extent} → SomeOf xs ys → overlap ys ≡ false → overlap xs ≡ false
overlap_some none h = h
overlap_some (without {x = x} {ys = ys} s) h = overlap_some s (or_parts (list_any (share_a_byte x) ys) (overlap ys) h).1
overlap_some (with {x = x} {xs = xs} {ys = ys} s) h =
    let parts = or_parts (list_any (share_a_byte x) ys) (overlap ys) h in
    or_from (list_any (share_a_byte x) xs) (overlap xs) (any_some (share_a_byte x) s parts.0) (overlap_some s parts.1)

-- the extents that are found from a recovery point, where it is one, of a sparse file
found_front : (unset here there sparse : Bool) (front whole rest all : List Extent) → (unset || here) ≡ true → (unset || there) ≡ true → (unset ≡ false → sparse ≡ true)
    → IsPrefix front whole
    → IsPrefix (cond (unset || not here) [] (cond sparse front rest)) (cond (unset || not there) [] (cond sparse whole all))
found_front true here there sparse front whole rest all h g alone prefix = ([], refl)
found_front false false there sparse front whole rest all h g alone prefix = cc
found_front false true false sparse front whole rest all h g alone prefix = cc
found_front false true true true front whole rest all h g alone prefix = prefix
found_front false true true false front whole rest all h g alone prefix = let wrong : false ≡ true = alone refl in cc

-- the extents of a file that are found again are the first that were
pub recovered_front : (i j : Image) (e : FileEntry) → KeepsFronts i j → 0 < i.geometry.block → SparseAlone e
    → has_valid_recovery_point j e ≡ true → has_valid_recovery_point i e ≡ true → IsPrefix (recovered_extents j e) (recovered_extents i e)
recovered_front i j e keeps pos alone here there =
    found_front (e.active == no_active) (is_recovery_point j e.active) (is_recovery_point i e.active) e.sparse
    (frames_at j e.active) (frames_at i e.active) (rest_at j e.active) (rest_at i e.active) here there alone
    (frames_stay_in_order i j e.active pos keeps.geometry (keeps.fronts (zone_of i.geometry e.active)))

-- the extents of a table are some of those that were
pub recovered_some : (i j : Image) (es : Table) → KeepsFronts i j → 0 < i.geometry.block → AllByRecursion SparseAlone es
    → list_all (has_valid_recovery_point j) es ≡ true → list_all (has_valid_recovery_point i) es ≡ true
    → SomeOf (all_extents (map (recovered_entry j) es)) (all_extents (map (recovered_entry i) es))
recovered_some i j [] keeps pos alone here there = none
recovered_some i j (e ∷ es) keeps pos alone here there =
    let a = and_parts (has_valid_recovery_point j e) (list_all (has_valid_recovery_point j) es) here in
    let b = and_parts (has_valid_recovery_point i e) (list_all (has_valid_recovery_point i) es) there in
    let front : IsPrefix (recovered_extents j e) (recovered_extents i e) = recovered_front i j e keeps pos alone.0 a.0 b.0 in
    let first : SomeOf (recovered_extents j e) (recovered_extents i e) = subst (SomeOf (recovered_extents j e)) front.1 (front_of (recovered_extents j e) front.0) in
    some_append (all_extents (map (recovered_entry j) es)) (all_extents (map (recovered_entry i) es))
    (behind_all e.extents (recovered_extents j e) (recovered_extents i e) first) (recovered_some i j es keeps pos alone.1 a.1 b.1)

-- the first of three rules that is broken
pub first_broken : Bool → Bool → Bool → Option ℕ
first_broken written shared valid = if not written then Some 8 else if shared then Some 9 else if not valid then Some 10 else None

-- a table that breaks no rule
pub unbroken : (written shared valid : Bool) → first_broken written shared valid ≡ None
    → (written ≡ true) × (shared ≡ false) × (valid ≡ true)
unfolding first_broken
unbroken false shared valid h = cc
unbroken true true valid h = cc
unbroken true false false h = cc
unbroken true false true h = (refl, refl, refl)

pub kept_table_stays : KeptTableStays
unfolding first_broken
kept_table_stays i j es keeps pos alone written valid h =
    let was = unbroken (list_all (is_written i) (all_extents es)) (overlap (all_extents (map (recovered_entry i) es))) (list_all (has_valid_recovery_point i) es) h in
    let apart : overlap (all_extents (map (recovered_entry j) es)) ≡ false = overlap_some (recovered_some i j es keeps pos alone valid was.2) was.1 in
    ap (λ b. first_broken b (overlap (all_extents (map (recovered_entry j) es))) (list_all (has_valid_recovery_point j) es)) written
    ∙ (ap (λ b. first_broken true b (list_all (has_valid_recovery_point j) es)) apart ∙ ap (first_broken true false) valid)

-- Zones that are emptied, by number.
use Rattle.std.proofs.Common.{◌≡◌, ◌≢◌, ℕ, zero, suc, ◌+◌, ◌-◌, ◌<◌, ◌≤◌, ⊎_elim, IsTrue, ◌==◌, true, false, not, List, [], ◌∷◌, length, get_or, refl, sym, ◌∙◌, ap, subst, arith}
use Rattle.std.proofs.lemmas.Bool.{not-true, ne_eqb}
use Rattle.std.proofs.lemmas.List.{length-map, nil_from_length}
use Rattle.std.proofs.lemmas.List.Elements.{All-get_or}
use Rattle.zone_image.specs.declared.Geometry.{Geometry}
use Rattle.zone_image.specs.declared.ZoneInfo.{ZoneInfo}
use Rattle.zone_image.specs.Image.{is_valid, Zone, Image, ZoneCrash, IsCrash, no_zone, zone_in, zone_at}
use Rattle.zone_image.specs.Changes.{change_at, emptied}
use Rattle.zone_image.specs.Infos.{no_info, info_of, info_at, info_appended, infos_appended, infos_emptied, IsZone, IsPossible, IsImage}
use Rattle.zone_image.specs.Moments.{PassedByReset}
use Rattle.zone_image.proofs.ImageLaws.{zone_in_is}
use Rattle.zone_image.proofs.InfoLaws.{info_at_is}
use Rattle.log_model.specs.LogScan.{blocks_of}
use Rattle.log_model.proofs.CrashLaws.{crashed_zone}
use Rattle.meta_log.proofs.Reading.{block_positive, blocks_positive}
use Rattle.log_roll.specs.Resets.{filled_from, cleared, CrashesMetadata}

-- a change that leaves the item as it is changes nothing
pub change_nothing : {A : Type 0} (n : ℕ) (f : A → A) (xs : List A) (d : A) → n < length xs → f (get_or xs n d) ≡ get_or xs n d → change_at n f xs ≡ xs
change_nothing n f [] d there same = absurd (omega arith)
change_nothing zero f (x ∷ xs) d there same = ap (λ y. y ∷ xs) same
change_nothing (suc n) f (x ∷ xs) d there same = ap (λ ys. x ∷ ys) (change_nothing n f xs d (omega arith) same)

-- an item after a change of it
pub changed_item : {A : Type 0} (n : ℕ) (f : A → A) (xs : List A) (d : A) → n < length xs → get_or (change_at n f xs) n d ≡ f (get_or xs n d)
changed_item n f [] d there = absurd (omega arith)
changed_item zero f (x ∷ xs) d there = refl
changed_item (suc n) f (x ∷ xs) d there = changed_item n f xs d (omega arith)

-- an item after a change of another one
pub other_item : {A : Type 0} (n m : ℕ) (f : A → A) (xs : List A) (d : A) → m ≢ n → get_or (change_at n f xs) m d ≡ get_or xs m d
other_item n m f [] d other = refl
other_item zero zero f (x ∷ xs) d other = absurd (other refl)
other_item zero (suc m) f (x ∷ xs) d other = refl
other_item (suc n) zero f (x ∷ xs) d other = refl
other_item (suc n) (suc m) f (x ∷ xs) d other = other_item n m f xs d (λ same. other (ap suc same))

-- a zone of an image after a change of another one
pub other_zone : (n m : ℕ) (f : Zone → Zone) (i : Image) → m ≢ n → zone_in (change_at n f i.zones) m ≡ zone_at i m
other_zone n m f i other = zone_in_is (change_at n f i.zones) m ∙ (other_item n m f i.zones no_zone other ∙ sym (zone_in_is i.zones m))

-- the zone that was changed
pub changed_zone : (n : ℕ) (f : Zone → Zone) (i : Image) → n < length i.zones → zone_in (change_at n f i.zones) n ≡ f (zone_at i n)
changed_zone n f i there = zone_in_is (change_at n f i.zones) n ∙ (changed_item n f i.zones no_zone there ∙ ap f (sym (zone_in_is i.zones n)))

-- how many zones an image has
pub zones_of_image : (g : Geometry) (infos : List ZoneInfo) (i : Image) → IsPossible g infos → IsImage g infos i → length i.zones ≡ g.zones
zones_of_image g infos i possible image = sym (length-map i.zones info_of) ∙ (ap length image.told ∙ possible.count)

-- the number and the seal of an empty zone
pub unused : (info : ZoneInfo) → info.written ≡ 0 → not info.sealed ≡ true → info ≡ no_info
unused info none unsealed = let seal = not-true info.sealed unsealed in λ k. record { written = none k; sealed = seal k }

-- a zone without blocks and seal is an empty one
empty_zone : (g : Geometry) (z : Zone) → IsZone g z → length z.blocks ≡ 0 → z.sealed ≡ false → z ≡ no_zone
empty_zone g z is none unsealed =
    let kept : z.kept ≡ 0 = omega (arith, is.kept) in
    let blocks : z.blocks ≡ [] = nil_from_length z.blocks none in
    λ k. record { blocks = blocks k; kept = kept k; sealed = unsealed k }

-- a zone of which that is told is one
pub told_empty : (g : Geometry) (infos : List ZoneInfo) (i : Image) (zone : ℕ) → IsPossible g infos → IsImage g infos i → zone < g.zones
    → info_at infos zone ≡ no_info → zone_at i zone ≡ no_zone
told_empty g infos i zone possible image within none =
    let count : length i.zones ≡ g.zones = zones_of_image g infos i possible image in
    let info : info_of (zone_at i zone) ≡ no_info = sym (info_at_is i zone (omega (arith, count))) ∙ (ap (λ all. info_at all zone) image.told ∙ none) in
    let is : IsZone g (zone_at i zone) = subst (IsZone g) (sym (zone_in_is i.zones zone)) (All-get_or (IsZone g) i.zones zone no_zone (omega (arith, count)) image.zones) in
    empty_zone g (zone_at i zone) is (ap (λ x. x.written) info) (ap (λ x. x.sealed) info)

-- an empty zone may be emptied
pub emptied_info : (g : Geometry) (infos : List ZoneInfo) (zone : ℕ) → IsPossible g infos → zone < g.zones → info_at infos zone ≡ no_info → infos ≡ infos_emptied infos zone
emptied_info g infos zone possible within none =
    let there : zone < length infos = omega (arith, possible.count) in
    sym (change_nothing zone (λ _. no_info) infos no_info there (sym none))

pub emptied_image : (g : Geometry) (infos : List ZoneInfo) (i : Image) (zone : ℕ) → IsPossible g infos → IsImage g infos i → zone < g.zones
    → info_at infos zone ≡ no_info → i ≡ emptied i zone
emptied_image g infos i zone possible image within none =
    let count : length i.zones ≡ g.zones = zones_of_image g infos i possible image in
    let empty : no_zone ≡ get_or i.zones zone no_zone = sym (told_empty g infos i zone possible image within none) ∙ zone_in_is i.zones zone in
    let same : i.zones ≡ change_at zone (λ _. no_zone) i.zones = sym (change_nothing zone (λ _. no_zone) i.zones no_zone (omega (arith, count)) empty) in
    λ k. record { geometry = i.geometry; zones = same k }

-- what stands before the first that is filled
pub before_filled : {A : Type 0} (first count m : ℕ) (x : A) (xs : List A) (d : A) → m < first → get_or (filled_from first count x xs) m d ≡ get_or xs m d
before_filled first zero m x xs d before = refl
before_filled first (suc n) m x xs d before =
    other_item (first + n) m (λ _. x) (filled_from first n x xs) d (λ same. absurd (omega (arith, same))) ∙ before_filled first n m x xs d before

-- a crash of an image with emptied data zones
pub cleared_metadata : (i j : Image) (count : ℕ) → IsCrash (cleared 3 count i) j → CrashesMetadata i j
cleared_metadata i j count crash = record {
  geometry = crash.geometry;
  zones =
      λ m less.
      let same : zone_at (cleared 3 count i) m ≡ zone_at i m =
      zone_in_is (filled_from 3 count no_zone i.zones) m ∙ (before_filled 3 count m no_zone i.zones no_zone less ∙ sym (zone_in_is i.zones m)) in
      subst (λ z. ZoneCrash z (zone_at j m)) same (crashed_zone (cleared 3 count i) j m crash);
}

-- one zone more
pub fill_one_more : {A : Type 0} (zone : ℕ) (x : A) (xs : List A) → 3 ≤ zone → change_at zone (λ _. x) (filled_from 3 (zone - 3) x xs) ≡ filled_from 3 (zone + 1 - 3) x xs
fill_one_more zone x xs past =
    let at : 3 + (zone - 3) ≡ zone = omega arith in
    let next : suc (zone - 3) ≡ zone + 1 - 3 = omega arith in
    ap (λ n. change_at n (λ _. x) (filled_from 3 (zone - 3) x xs)) (sym at) ∙ ap (λ n. filled_from 3 n x xs) next

-- what the reset of a data zone passes, where those before it are emptied
pub reset_metadata : (i s j : Image) (zone : ℕ) → 3 ≤ zone → s ≡ cleared 3 (zone - 3) i → PassedByReset s zone j → CrashesMetadata i j
reset_metadata i s j zone past is passed = ⊎_elim
    (λ crash. cleared_metadata i j (zone - 3) (subst (λ x. IsCrash x j) is crash))
    (λ crash.
    let more : emptied s zone ≡ cleared 3 (zone + 1 - 3) i =
    ap (λ x. emptied x zone) is ∙ (λ k. record { geometry = i.geometry; zones = fill_one_more zone no_zone i.zones past k }) in
    cleared_metadata i j (zone + 1 - 3) (subst (λ x. IsCrash x j) more crash))
    passed

-- so many blocks, sealed where they are the capacity
written_of : ℕ → ℕ → ZoneInfo
written_of n capacity = record { written = n; sealed = n == capacity }

-- the number and the seal of a zone that was empty, after blocks that don't fill it
pub begun_info : (shape g : Geometry) (infos : List ZoneInfo) (zone n : ℕ) → IsPossible g infos → zone < g.zones → info_at infos zone ≡ no_info → n < shape.capacity
    → info_at (infos_appended shape infos zone n) zone ≡ record { written = n; sealed = false }
unfolding written_of
begun_info shape g infos zone n possible within empty less =
    let there : zone < length infos = omega (arith, possible.count) in
    let at : info_at (infos_appended shape infos zone n) zone ≡ info_appended shape.capacity n no_info =
    changed_item zone (info_appended shape.capacity n) infos no_info there ∙ ap (info_appended shape.capacity n) empty in
    let sum : 0 + n ≡ n = omega arith in
    let unfull : (n == shape.capacity) ≡ false = ne_eqb n shape.capacity (λ full. absurd (omega (arith, full, less))) in
    at ∙ (ap (λ k. written_of k shape.capacity) sum ∙ (λ k. record { written = n; sealed = unfull k }))

-- a record has a block
pub record_has_block : (g shape : Geometry) (len : ℕ) → IsTrue (is_valid g) → shape ≡ g → 0 < blocks_of shape.block len
record_has_block g shape len valid same =
    subst (λ (x : Geometry). 0 < blocks_of x.block len) (sym same) (blocks_positive g.block len (block_positive g valid))

-- The end of the old log of a roll.
use Rattle.std.proofs.Common.{◌≡◌, ℕ, ◌<◌, Bool, true, false, cond, List, length, get_or, refl, sym, ◌∙◌, ap, arith}
use Rattle.zone_image.specs.declared.Geometry.{Geometry}
use Rattle.zone_image.specs.declared.ZoneInfo.{ZoneInfo}
use Rattle.zone_image.specs.Image.{Zone, Image, no_zone, zone_at}
use Rattle.zone_image.specs.Changes.{zone_finished, appended, finished}
use Rattle.zone_image.specs.Infos.{no_info, info_of, info_at, info_finished, infos_finished, IsPossible, IsImage}
use Rattle.zone_image.proofs.ImageLaws.{zone_in_is}
use Rattle.zone_image.proofs.InfoLaws.{info_at_is}
use Rattle.log_roll.specs.Rolling.{gets_end, end_blocks, ended}
use Rattle.log_roll.proofs.ZoneChanges.{change_nothing, zones_of_image}

-- what is told of a zone is what the image has
pub told_info : (g : Geometry) (infos : List ZoneInfo) (i : Image) (zone : ℕ) → IsPossible g infos → IsImage g infos i → zone < g.zones
    → info_of (zone_at i zone) ≡ info_at infos zone
told_info g infos i zone possible image within =
    let count : length i.zones ≡ g.zones = zones_of_image g infos i possible image in
    sym (info_at_is i zone (omega (arith, count, within))) ∙ ap (λ all. info_at all zone) image.told

-- the test of the image is the one of what is told
same_test : (g : Geometry) (i : Image) (can_end : Bool) (zone : ℕ) (info : ZoneInfo) (b : Bool) → i.geometry ≡ g → info_of (zone_at i zone) ≡ info → gets_end g.capacity can_end info ≡ b
    → gets_end i.geometry.capacity can_end (info_of (zone_at i zone)) ≡ b
same_test g i can_end zone info b shape told test =
    ap (λ (s : Geometry). gets_end s.capacity can_end (info_of (zone_at i zone))) shape ∙ (ap (gets_end g.capacity can_end) told ∙ test)

-- a log that gets an end record
pub ended_true : (g : Geometry) (i : Image) (can_end : Bool) (zone : ℕ) (info : ZoneInfo) → i.geometry ≡ g → info_of (zone_at i zone) ≡ info → gets_end g.capacity can_end info ≡ true
    → ended can_end zone i ≡ appended i zone (end_blocks g.block)
ended_true g i can_end zone info shape told test =
    ap (λ b. cond b (appended i zone (end_blocks i.geometry.block)) i) (same_test g i can_end zone info true shape told test)
    ∙ ap (λ (s : Geometry). appended i zone (end_blocks s.block)) shape

-- one that gets none
pub ended_false : (g : Geometry) (i : Image) (can_end : Bool) (zone : ℕ) (info : ZoneInfo) → i.geometry ≡ g → info_of (zone_at i zone) ≡ info → gets_end g.capacity can_end info ≡ false
    → ended can_end zone i ≡ i
ended_false g i can_end zone info shape told test =
    ap (λ b. cond b (appended i zone (end_blocks i.geometry.block)) i) (same_test g i can_end zone info false shape told test)

-- a sealed zone may be sealed
pub sealed_info : (g : Geometry) (infos : List ZoneInfo) (zone : ℕ) → IsPossible g infos → zone < g.zones → (info_at infos zone).sealed ≡ true → infos ≡ infos_finished infos zone
sealed_info g infos zone possible within seal =
    let same : info_finished (info_at infos zone) ≡ info_at infos zone = λ k. record { written = (info_at infos zone).written; sealed = sym seal k } in
    sym (change_nothing zone info_finished infos no_info (omega (arith, possible.count, within)) same)

pub sealed_image : (g : Geometry) (infos : List ZoneInfo) (i : Image) (zone : ℕ) → IsPossible g infos → IsImage g infos i → zone < g.zones → (info_at infos zone).sealed ≡ true → i ≡ finished i zone
sealed_image g infos i zone possible image within seal =
    let count : length i.zones ≡ g.zones = zones_of_image g infos i possible image in
    let z : Zone = get_or i.zones zone no_zone in
    let sealed : z.sealed ≡ true =
    ap (λ (y : Zone). y.sealed) (sym (zone_in_is i.zones zone)) ∙ (ap (λ (x : ZoneInfo). x.sealed) (told_info g infos i zone possible image within) ∙ seal) in
    let same : zone_finished z ≡ z = λ k. record { blocks = z.blocks; kept = z.kept; sealed = sym sealed k } in
    let zones = sym (change_nothing zone zone_finished i.zones no_zone (omega (arith, count, within)) same) in
    λ k. record { geometry = i.geometry; zones = zones k }

-- a log that gets an end record may have one
pub may_end : (capacity : ℕ) (can_end : Bool) (info : ZoneInfo) → gets_end capacity can_end info ≡ true → can_end ≡ true
may_end capacity true info test = refl
may_end capacity false info test = cc

-- On a device all of whose zones may be active, no change makes too many zones active.
use Rattle.std.specs.Prelude.{ℕ, ◌≡◌, ◌+◌, ◌<◌, ◌≤◌, Bool, true, false, cond, not, nat_lt, ◌&&◌, List, [], ◌∷◌, length, refl}
use Rattle.std.proofs.Common.{◌∙◌, ap, arith}
use Rattle.std.proofs.lemmas.List.{length-map}
use Rattle.std.proofs.lemmas.List.Sums.{sum_by-cons}
use Rattle.zone_image.specs.declared.Geometry.{Geometry}
use Rattle.zone_image.specs.declared.ZoneInfo.{ZoneInfo}
use Rattle.zone_image.specs.Image.{Image, Zone}
use Rattle.zone_image.specs.Changes.{change_at, with_zone}
use Rattle.zone_image.specs.Infos.{IsPossible, active_zones, info_at, info_of, infos_of, is_active_info, no_info}
use Rattle.zone_image.proofs.ImageLaws.{length-change_at, count_by-change_at}

-- a test counts for one at most
one_at_most : (b : Bool) → cond b 1 0 ≤ 1
one_at_most true = omega arith
one_at_most false = omega arith

-- no more zones are active than there are
few : (infos : List ZoneInfo) → active_zones infos ≤ length infos
few [] = omega arith
few (x ∷ xs) = omega (arith, sum_by-cons (λ y. cond (is_active_info y) 1 0) x xs, one_at_most (is_active_info x), few xs)

-- after a change of one zone no more are active than may be
pub few_changed : (shape g : Geometry) (i : Image) (zone : ℕ) (f : Zone → Zone) → shape ≡ g → IsPossible g (infos_of i) → shape.zones ≤ shape.active_limit
    → active_zones (infos_of (with_zone i zone f)) ≤ g.active_limit
few_changed shape g i zone f same possible enough =
    let changed : length (infos_of (with_zone i zone f)) ≡ length i.zones = length-map (change_at zone f i.zones) info_of ∙ length-change_at zone f i.zones in
    let infos : List ZoneInfo = infos_of (with_zone i zone f) in
    let zones : shape.zones ≡ g.zones = ap (λ (s : Geometry). s.zones) same in
    let limit : shape.active_limit ≡ g.active_limit = ap (λ (s : Geometry). s.active_limit) same in
    omega (arith, few infos, changed, length-map i.zones info_of, possible.count, zones, limit, enough)

-- a zone without blocks isn't active
not_active : (open_zone : Bool) (written : ℕ) → written ≡ 0 → open_zone && nat_lt 0 written ≡ false
not_active true written none = ap (λ n. nat_lt 0 n) none
not_active false written none = refl

-- what a test counts for
abbrev counted_as : Bool → ℕ
counted_as b = cond b 1 0

-- an active zone
abbrev one_block : ZoneInfo
one_block = record { written = 1; sealed = false }

-- beside a zone without blocks fewer are active than may be
pub fewer : (shape g : Geometry) (infos : List ZoneInfo) (zone : ℕ) → shape ≡ g → IsPossible g infos → zone < shape.zones → (info_at infos zone).written ≡ 0
    → shape.zones ≤ shape.active_limit → active_zones infos < g.active_limit
fewer shape g infos zone same possible in_range none enough =
    let zones : shape.zones ≡ g.zones = ap (λ (s : Geometry). s.zones) same in
    let limit : shape.active_limit ≡ g.active_limit = ap (λ (s : Geometry). s.active_limit) same in
    let here : zone < length infos = omega (arith, in_range, zones, possible.count) in
    let more : List ZoneInfo = change_at zone (λ _. one_block) infos in
    let counted : active_zones more + cond (is_active_info (info_at infos zone)) 1 0 ≡ active_zones infos + 1 = count_by-change_at is_active_info zone (λ _. one_block) infos no_info here in
    let zero : counted_as (is_active_info (info_at infos zone)) ≡ 0 = ap counted_as (not_active (not (info_at infos zone).sealed) (info_at infos zone).written none) in
    omega (arith, few more, length-change_at zone (λ (_ : ZoneInfo). one_block) infos, counted, zero, possible.count, zones, limit, enough)

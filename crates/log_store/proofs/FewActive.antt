-- On a device on which more zones may be active than it has data zones, one more may be active beside these.
use Rattle.std.specs.Prelude.{ℕ, ◌≡◌, ◌+◌, ◌<◌, ◌≤◌, Bool, true, false, cond, List, [], ◌∷◌, length, drop, IsTrue, Option, Some, None, refl}
use Rattle.std.proofs.Common.{ap, arith}
use Rattle.std.proofs.lemmas.List.Sums.{sum_by-cons}
use Rattle.std.proofs.lemmas.List.{length-drop}
use Rattle.zone_image.specs.declared.Geometry.{Geometry}
use Rattle.zone_image.specs.declared.ZoneInfo.{ZoneInfo}
use Rattle.std.proofs.lemmas.Grind.{common_steps}
use Rattle.zone_image.specs.Image.{is_valid}
use Rattle.zone_image.specs.Infos.{IsPossible, active_zones, info_finished, is_active_info}
use Rattle.zone_image.proofs.ImageLaws.{length-change_at}
use Rattle.log_store.specs.Settling.{infos_sealed}

-- a test counts for one at most
one_at_most : (b : Bool) → cond b 1 0 ≤ 1
one_at_most true = omega arith
one_at_most false = omega arith

-- no more zones are active than there are
few : (infos : List ZoneInfo) → active_zones infos ≤ length infos
few [] = omega arith
few (x ∷ xs) = omega (arith, sum_by-cons (λ y. cond (is_active_info y) 1 0) x xs, one_at_most (is_active_info x), few xs)

-- a device has data zones
some_zones : (g : Geometry) → IsTrue (is_valid g) → 3 < g.zones
some_zones g valid = grind (arith, common_steps)

pub few_active : (shape g : Geometry) (infos : List ZoneInfo) → shape ≡ g → IsPossible g infos → shape.zones < shape.active_limit + 3 → active_zones (drop 3 infos) < shape.active_limit
few_active shape g infos same possible more =
    let zones : shape.zones ≡ g.zones = ap (λ (s : Geometry). s.zones) same in
    omega (arith, few (drop 3 infos), length-drop 3 infos, possible.count, zones, more, some_zones g possible.valid)

-- a list of so many zones has as many after the finish of one
sealed_count : (infos : List ZoneInfo) (finish : Option ℕ) → length (infos_sealed infos finish) ≡ length infos
sealed_count infos None = refl
sealed_count infos (Some zone) = length-change_at zone info_finished infos

-- the same where a zone is finished
pub few_sealed : (shape g : Geometry) (infos : List ZoneInfo) (finish : Option ℕ) → shape ≡ g → IsPossible g infos → shape.zones < shape.active_limit + 3
    → active_zones (drop 3 (infos_sealed infos finish)) < shape.active_limit
few_sealed shape g infos finish same possible more =
    let zones : shape.zones ≡ g.zones = ap (λ (s : Geometry). s.zones) same in
    let sealed : List ZoneInfo = infos_sealed infos finish in
    omega (arith, few (drop 3 sealed), length-drop 3 sealed, sealed_count infos finish, possible.count, zones, more, some_zones g possible.valid)

-- Bounds of the figures of space.
use Rattle.std.proofs.Common.{◌≡◌, ℕ, ◌+◌, ◌-◌, ◌*◌, ◌/◌, ◌≤◌, ap, arith}
use Rattle.std.proofs.Math.Nat.{div-le_of_le-mul}
use Rattle.std.specs.Prelude.{IsTrue}
use Rattle.zone_image.specs.declared.Geometry.{Geometry}
use Rattle.zone_image.specs.Image.{is_valid}

-- what is left of all zones but three is at most a hundred percent of them
pub percent_small : (free zones capacity : ℕ) → 3 ≤ zones → free + 3 * capacity ≤ zones * capacity → 100 * free / ((zones - 3) * capacity) ≤ 100
percent_small free zones capacity some small =
    let split : zones ≡ (zones - 3) + 3 = omega arith in
    let all : zones * capacity ≡ ((zones - 3) + 3) * capacity = ap (λ (n : ℕ). n * capacity) split in
    let left : free ≤ (zones - 3) * capacity = omega (arith, all, small) in
    div-le_of_le-mul ((zones - 3) * capacity) (omega (arith, left))

-- the limits of a geometry
pub some_zones : (g : Geometry) → IsTrue (is_valid g) → 32 ≤ g.zones
some_zones g valid = grind (arith, valid)

pub few_zones : (g : Geometry) → IsTrue (is_valid g) → g.zones ≤ 65536
few_zones g valid = grind (arith, valid)

pub some_capacity : (g : Geometry) → IsTrue (is_valid g) → 8 ≤ g.capacity
some_capacity g valid = grind (arith, valid)

use Rattle.std.proofs.Common.{◌≡◌, ℕ, ◌+◌, ◌-◌, ◌*◌, ◌/◌, ◌≤◌, length, ap, sym, ◌∙◌, subst, arith}
use Rattle.zone_alloc.proofs.SpaceLaws.{percent_small, some_zones}
use Rattle.zone_alloc.proofs.space.free_percent.Goals as goal

small : (c : goal.After-free_blocks) → 100 * c.free_blocks.result / (c.from.result * c.from-2.result) ≤ 100
small c =
    let g = c.args.geometry.now in
    let n : length c.args.zones.now ≡ g.zones = c.requires.count in
    let total : (g.zones - 3) * g.capacity ≡ c.from.result * c.from-2.result =
    ap (λ (k : ℕ). k * g.capacity) (sym c.from.ensures) ∙ ap (λ (k : ℕ). c.from.result * k) (sym c.from-2.ensures) in
    let all : length c.args.zones.now * g.capacity ≡ g.zones * g.capacity = ap (λ (k : ℕ). k * g.capacity) n in
    let room : c.free_blocks.result + 3 * g.capacity ≤ g.zones * g.capacity = omega (arith, all, c.free_blocks.ensures.small) in
    subst (λ (k : ℕ). 100 * c.free_blocks.result / k ≤ 100) total (percent_small c.free_blocks.result g.zones g.capacity (omega (arith, some_zones g c.requires.valid)) room)

pub overflow_cast-result : goal.overflow_cast-result
overflow_cast-result c = omega (arith, small c)

pub returns-clause-small : goal.returns-clause-small
returns-clause-small c = small c

use Rattle.std.proofs.Common.{◌≡◌, ℕ, suc, ◌+◌, ◌*◌, List, set, ◌∙◌, ap, arith}
use Rattle.power_image.specs.Making.{with_gates}
use Rattle.power_image.proofs.making.open_first_gates.Goals as goal

pub loop-zone-preserved : goal.loop-zone-preserved
loop-zone-preserved c =
    let zone = c.loop-zone.zone in
    let next : suc zone ≡ zone + 1 = omega arith in
    ap (λ (l : List ℕ). set l (4064 + zone * 32) 165) c.loop-zone.invariant ∙ ap (λ n. with_gates n c.args.front.now) next

use Rattle.std.proofs.Common.{ℕ, ◌<◌, List, length, arith, subst, sym, get_or, set, ◌+◌}
use Rattle.power_image.proofs.Filling.{IsFilled, kept, put}
use Rattle.power_image.proofs.power_mem.fill_open.Goals as goal
use Rattle.power_image.proofs.power_mem.fill_open.Goals.{then-flags-n, else-flags-n}

pub loop-n-preserved : goal.loop-n-preserved
loop-n-preserved c =
    let flags = c.args.flags.now in
    let bytes = c.args.bytes.now in
    let fill = c.args.fill.now in
    let in_range : c.loop-n.n < length c.loop-n.bytes = omega (arith, c.loop-n-test.true, c.loop-n.invariant.long) in
    elim c.if-flags-n.branch [
      | then-flags-n w ↦ subst (λ (l : List ℕ). IsFilled flags bytes fill l c.if-flags-n.at (c.loop-n.n + 1)) (sym w.bytes-is)
          (subst (λ (at : ℕ). IsFilled flags bytes fill (set c.loop-n.bytes c.loop-n.n (get_or fill c.loop-n.at 0)) at (c.loop-n.n + 1)) (sym w.at-is)
          (put flags bytes fill c.loop-n.bytes c.loop-n.at c.loop-n.n c.requires.flags in_range c.loop-n.invariant w.if-flags-n.true))
      | else-flags-n w ↦ subst (λ (l : List ℕ). IsFilled flags bytes fill l c.if-flags-n.at (c.loop-n.n + 1)) (sym w.bytes-is)
          (subst (λ (at : ℕ). IsFilled flags bytes fill c.loop-n.bytes at (c.loop-n.n + 1)) (sym w.at-is)
          (kept flags bytes fill c.loop-n.bytes c.loop-n.at c.loop-n.n c.requires.flags in_range c.loop-n.invariant w.if-flags-n.false))
    ]

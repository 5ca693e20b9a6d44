use Rattle.std.proofs.Common.{sym, ◌∙◌, arith}
use Rattle.zone_alloc.specs.ZoneTests.{is_wanted}
use Rattle.zone_alloc.proofs.ZoneWalks.{count-passes, count-fails, count-end}
use Rattle.zone_alloc.proofs.walks.count.Goals as goal
use Rattle.zone_alloc.proofs.walks.count.Goals.{then-passes, else-passes}

pub loop-i-preserved : goal.loop-i-preserved
loop-i-preserved c =
    elim c.if-passes.branch [
      | then-passes w ↦ omega (arith, count-passes (is_wanted c.args.test) c.args.zones.now c.loop-i.i c.loop-i-test.true (sym c.passes.ensures ∙ w.if-passes.true))
      | else-passes w ↦ omega (arith, count-fails (is_wanted c.args.test) c.args.zones.now c.loop-i.i c.loop-i-test.true (sym c.passes.ensures ∙ w.if-passes.false))
    ]

pub returns : goal.returns
returns c = omega (arith, count-end (is_wanted c.args.test) c.args.zones.now c.loop-i.i c.loop-i-test.false)

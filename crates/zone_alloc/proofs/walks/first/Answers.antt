use Rattle.std.proofs.Common.{sym, ◌∙◌, ap}
use Rattle.fs_model.specs.ZonePolicy.{Numbered, first}
use Rattle.zone_alloc.specs.ZoneTests.{is_wanted}
use Rattle.zone_alloc.proofs.ZoneWalks.{filter-passes, filter-fails, filter-end}
use Rattle.zone_alloc.proofs.walks.first.Goals as goal

pub returns-then-passes : goal.returns-then-passes
returns-then-passes c =
    sym (ap (first {X = Numbered}) (filter-passes (is_wanted c.args.test) c.args.zones.now c.loop-i.i c.loop-i-test.true (sym c.passes.ensures ∙ c.if-passes.true)))
    ∙ ap (first {X = Numbered}) c.loop-i.invariant

pub loop-i-preserved : goal.loop-i-preserved
loop-i-preserved c =
    sym (filter-fails (is_wanted c.args.test) c.args.zones.now c.loop-i.i c.loop-i-test.true (sym c.passes.ensures ∙ c.if-passes.false)) ∙ c.loop-i.invariant

pub returns : goal.returns
returns c =
    sym (ap (first {X = Numbered}) (filter-end (is_wanted c.args.test) c.args.zones.now c.loop-i.i c.loop-i-test.false))
    ∙ ap (first {X = Numbered}) c.loop-i.invariant

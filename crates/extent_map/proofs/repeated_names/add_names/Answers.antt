use Rattle.std.proofs.Common.{◌∙◌}
use Rattle.extent_map.proofs.NameSetLaws.{names_more}
use Rattle.extent_map.proofs.repeated_names.add_names.Goals as goal

pub loop-name-preserved : goal.loop-name-preserved
loop-name-preserved c =
    λ name.
    names_more c.loop-name.seen c.insert.new.self c.args.seen.now c.items.result c.args.names.now c.loop-name.name-index c.name-item.result name c.loop-name-test.true
    (c.items.ensures.bytes ∙ c.name-item.is) c.in_ok-insert.ensures.updates (c.loop-name.invariant name)

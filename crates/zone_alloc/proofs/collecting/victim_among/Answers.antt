use Rattle.std.proofs.Common.{Some, None, sym, ◌∙◌}
use Rattle.fs_model.specs.ZonePolicy.{data_zones}
use Rattle.zone_alloc.proofs.PlanLaws.{victim_from}
use Rattle.zone_alloc.proofs.collecting.victim_among.Goals as goal

pub returns-in-Some : goal.returns-in-Some
returns-in-Some c =
    let g = c.args.geometry.now in
    c.plan_for.ensures
    ∙ victim_from g.capacity g.active_limit c.args.percent c.threshold.result (data_zones c.args.zones.now) c.new-destinations.result (Some (c.in-Some.victim, c.in-Some.zone))
    c.if-percent-gt-COLLECTED_TO.false c.new-destinations.ensures c.threshold.ensures (sym c.in-Some.is ∙ c.worst_zone.ensures)

pub returns-in-None : goal.returns-in-None
returns-in-None c =
    let g = c.args.geometry.now in
    victim_from g.capacity g.active_limit c.args.percent c.threshold.result (data_zones c.args.zones.now) c.new-destinations.result None
    c.if-percent-gt-COLLECTED_TO.false c.new-destinations.ensures c.threshold.ensures (sym c.in-None.is ∙ c.worst_zone.ensures)

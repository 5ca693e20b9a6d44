use Rattle.state_rules.proofs.PointLaws.{collector_gives_no_point}
use Rattle.state_rules.proofs.points.law_collector_gives_no_point.Goals as goal

pub returns : goal.returns
returns c = collector_gives_no_point

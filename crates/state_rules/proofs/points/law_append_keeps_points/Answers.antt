use Rattle.state_rules.proofs.PointLaws.{append_keeps_points}
use Rattle.state_rules.proofs.points.law_append_keeps_points.Goals as goal

pub returns : goal.returns
returns c = append_keeps_points

use Rattle.state_rules.proofs.PointLaws.{finish_keeps_points}
use Rattle.state_rules.proofs.points.law_finish_keeps_points.Goals as goal

pub returns : goal.returns
returns c = finish_keeps_points

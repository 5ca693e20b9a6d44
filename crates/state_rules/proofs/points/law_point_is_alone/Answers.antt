use Rattle.state_rules.proofs.PointLaws.{point_is_alone}
use Rattle.state_rules.proofs.points.law_point_is_alone.Goals as goal

pub returns : goal.returns
returns c = point_is_alone

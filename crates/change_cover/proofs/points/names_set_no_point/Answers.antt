use Rattle.change_cover.proofs.PointLaws.{names_set_no_point}
use Rattle.change_cover.proofs.points.names_set_no_point.Goals as goal

pub returns : goal.returns
returns c = names_set_no_point

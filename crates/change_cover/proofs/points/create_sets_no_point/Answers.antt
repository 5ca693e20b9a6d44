use Rattle.change_cover.proofs.PointLaws.{create_sets_no_point}
use Rattle.change_cover.proofs.points.create_sets_no_point.Goals as goal

pub returns : goal.returns
returns c = create_sets_no_point

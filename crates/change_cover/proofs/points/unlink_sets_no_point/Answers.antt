use Rattle.change_cover.proofs.PointLaws.{unlink_sets_no_point}
use Rattle.change_cover.proofs.points.unlink_sets_no_point.Goals as goal

pub returns : goal.returns
returns c = unlink_sets_no_point

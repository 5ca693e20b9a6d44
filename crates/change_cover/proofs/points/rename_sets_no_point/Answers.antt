use Rattle.change_cover.proofs.PointLaws.{rename_sets_no_point}
use Rattle.change_cover.proofs.points.rename_sets_no_point.Goals as goal

pub returns : goal.returns
returns c = rename_sets_no_point

use Rattle.state_rules.proofs.PointLaws.{writer_gives_no_point}
use Rattle.state_rules.proofs.points.law_writer_gives_no_point.Goals as goal

pub returns : goal.returns
returns c = writer_gives_no_point

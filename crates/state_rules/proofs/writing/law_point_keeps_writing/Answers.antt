use Rattle.state_rules.proofs.WritingData.{point_keeps_writing}
use Rattle.state_rules.proofs.writing.law_point_keeps_writing.Goals as goal

pub returns : goal.returns
returns c = point_keeps_writing

use Rattle.state_rules.proofs.WritingLaws.{finish_keeps_writing}
use Rattle.state_rules.proofs.writing.law_finish_keeps_writing.Goals as goal

pub returns : goal.returns
returns c = finish_keeps_writing

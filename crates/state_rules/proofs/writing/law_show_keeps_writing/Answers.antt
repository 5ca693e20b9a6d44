use Rattle.state_rules.proofs.WritingData.{show_keeps_writing}
use Rattle.state_rules.proofs.writing.law_show_keeps_writing.Goals as goal

pub returns : goal.returns
returns c = show_keeps_writing

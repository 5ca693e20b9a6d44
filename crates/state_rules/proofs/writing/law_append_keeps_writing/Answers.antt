use Rattle.state_rules.proofs.WritingLaws.{append_keeps_writing}
use Rattle.state_rules.proofs.writing.law_append_keeps_writing.Goals as goal

pub returns : goal.returns
returns c = append_keeps_writing

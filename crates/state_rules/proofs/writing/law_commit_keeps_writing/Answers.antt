use Rattle.state_rules.proofs.WritingData.{commit_keeps_writing}
use Rattle.state_rules.proofs.writing.law_commit_keeps_writing.Goals as goal

pub returns : goal.returns
returns c = commit_keeps_writing

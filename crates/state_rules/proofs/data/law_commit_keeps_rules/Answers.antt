use Rattle.state_rules.proofs.DataRules.{commit_keeps_rules}
use Rattle.state_rules.proofs.data.law_commit_keeps_rules.Goals as goal

pub returns : goal.returns
returns c = commit_keeps_rules

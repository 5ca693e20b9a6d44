use Rattle.state_rules.proofs.ZoneRules.{retire_keeps_rules}
use Rattle.state_rules.proofs.owners.law_retire_keeps_rules.Goals as goal

pub returns : goal.returns
returns c = retire_keeps_rules

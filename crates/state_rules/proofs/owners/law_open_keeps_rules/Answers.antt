use Rattle.state_rules.proofs.ZoneRules.{open_keeps_rules}
use Rattle.state_rules.proofs.owners.law_open_keeps_rules.Goals as goal

pub returns : goal.returns
returns c = open_keeps_rules

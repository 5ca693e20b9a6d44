use Rattle.state_rules.proofs.ZoneRules.{close_keeps_rules}
use Rattle.state_rules.proofs.owners.law_close_keeps_rules.Goals as goal

pub returns : goal.returns
returns c = close_keeps_rules

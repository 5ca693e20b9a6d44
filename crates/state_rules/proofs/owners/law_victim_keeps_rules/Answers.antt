use Rattle.state_rules.proofs.ZoneRules.{victim_keeps_rules}
use Rattle.state_rules.proofs.owners.law_victim_keeps_rules.Goals as goal

pub returns : goal.returns
returns c = victim_keeps_rules

use Rattle.state_rules.proofs.ZoneRules.{destination_keeps_rules}
use Rattle.state_rules.proofs.owners.law_destination_keeps_rules.Goals as goal

pub returns : goal.returns
returns c = destination_keeps_rules

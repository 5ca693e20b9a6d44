use Rattle.state_rules.proofs.ZoneRules.{take_keeps_rules}
use Rattle.state_rules.proofs.owners.law_take_keeps_rules.Goals as goal

pub returns : goal.returns
returns c = take_keeps_rules

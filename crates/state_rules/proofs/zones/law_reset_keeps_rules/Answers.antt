use Rattle.state_rules.proofs.ZoneRules.{reset_keeps_rules}
use Rattle.state_rules.proofs.zones.law_reset_keeps_rules.Goals as goal

pub returns : goal.returns
returns c = reset_keeps_rules

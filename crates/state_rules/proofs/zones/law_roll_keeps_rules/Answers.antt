use Rattle.state_rules.proofs.ZoneRules.{roll_keeps_rules}
use Rattle.state_rules.proofs.zones.law_roll_keeps_rules.Goals as goal

pub returns : goal.returns
returns c = roll_keeps_rules

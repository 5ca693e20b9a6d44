use Rattle.state_rules.proofs.ZoneRules.{append_keeps_rules}
use Rattle.state_rules.proofs.zones.law_append_keeps_rules.Goals as goal

pub returns : goal.returns
returns c = append_keeps_rules

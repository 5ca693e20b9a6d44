use Rattle.state_rules.proofs.ZoneRules.{finish_keeps_rules}
use Rattle.state_rules.proofs.zones.law_finish_keeps_rules.Goals as goal

pub returns : goal.returns
returns c = finish_keeps_rules

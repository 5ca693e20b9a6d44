use Rattle.state_rules.proofs.ZoneRules.{record_keeps_rules}
use Rattle.state_rules.proofs.zones.law_record_keeps_rules.Goals as goal

pub returns : goal.returns
returns c = record_keeps_rules

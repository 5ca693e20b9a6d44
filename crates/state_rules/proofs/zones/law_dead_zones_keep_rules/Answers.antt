use Rattle.state_rules.proofs.ZoneRules.{dead_zones_keep_rules}
use Rattle.state_rules.proofs.zones.law_dead_zones_keep_rules.Goals as goal

pub returns : goal.returns
returns c = dead_zones_keep_rules

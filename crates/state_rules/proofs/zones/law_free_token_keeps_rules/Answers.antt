use Rattle.state_rules.proofs.ZoneRules.{free_token_keeps_rules}
use Rattle.state_rules.proofs.zones.law_free_token_keeps_rules.Goals as goal

pub returns : goal.returns
returns c = free_token_keeps_rules

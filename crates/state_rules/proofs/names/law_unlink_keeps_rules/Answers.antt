use Rattle.state_rules.proofs.NameRules.{unlink_keeps_rules}
use Rattle.state_rules.proofs.names.law_unlink_keeps_rules.Goals as goal

pub returns : goal.returns
returns c = unlink_keeps_rules

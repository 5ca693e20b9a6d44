use Rattle.state_rules.proofs.NameRules.{create_keeps_rules}
use Rattle.state_rules.proofs.names.law_create_keeps_rules.Goals as goal

pub returns : goal.returns
returns c = create_keeps_rules

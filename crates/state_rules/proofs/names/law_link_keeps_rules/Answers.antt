use Rattle.state_rules.proofs.NameRules.{link_keeps_rules}
use Rattle.state_rules.proofs.names.law_link_keeps_rules.Goals as goal

pub returns : goal.returns
returns c = link_keeps_rules

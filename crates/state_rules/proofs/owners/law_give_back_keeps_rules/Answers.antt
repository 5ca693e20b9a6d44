use Rattle.state_rules.proofs.ZoneRules.{give_back_keeps_rules}
use Rattle.state_rules.proofs.owners.law_give_back_keeps_rules.Goals as goal

pub returns : goal.returns
returns c = give_back_keeps_rules

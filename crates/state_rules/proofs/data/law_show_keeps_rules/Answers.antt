use Rattle.state_rules.proofs.DataRules.{show_keeps_rules}
use Rattle.state_rules.proofs.data.law_show_keeps_rules.Goals as goal

pub returns : goal.returns
returns c = show_keeps_rules

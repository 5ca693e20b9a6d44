use Rattle.state_rules.proofs.DataRules.{clear_keeps_rules}
use Rattle.state_rules.proofs.data.law_clear_keeps_rules.Goals as goal

pub returns : goal.returns
returns c = clear_keeps_rules

use Rattle.state_rules.proofs.DataRules.{move_keeps_rules}
use Rattle.state_rules.proofs.data.law_move_keeps_rules.Goals as goal

pub returns : goal.returns
returns c = move_keeps_rules

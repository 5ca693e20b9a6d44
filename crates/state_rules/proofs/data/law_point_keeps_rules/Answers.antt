use Rattle.state_rules.proofs.DataRules.{point_keeps_rules}
use Rattle.state_rules.proofs.data.law_point_keeps_rules.Goals as goal

pub returns : goal.returns
returns c = point_keeps_rules

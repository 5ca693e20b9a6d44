use Rattle.state_rules.proofs.NameRules.{rename_keeps_rules}
use Rattle.state_rules.proofs.names.law_rename_keeps_rules.Goals as goal

pub returns : goal.returns
returns c = rename_keeps_rules

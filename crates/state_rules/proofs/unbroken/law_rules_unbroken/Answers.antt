use Rattle.state_rules.proofs.UnbrokenLaws.{rules_unbroken}
use Rattle.state_rules.proofs.unbroken.law_rules_unbroken.Goals as goal

pub returns : goal.returns
returns c = rules_unbroken

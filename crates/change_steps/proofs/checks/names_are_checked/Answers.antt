use Rattle.change_steps.proofs.CheckLaws.{missing_is_checked, name_is_checked, id_is_checked}
use Rattle.change_steps.proofs.checks.names_are_checked.Goals as goal

pub returns-clause-missing : goal.returns-clause-missing
returns-clause-missing c = missing_is_checked

pub returns-clause-named : goal.returns-clause-named
returns-clause-named c = name_is_checked

pub returns-clause-ids_end : goal.returns-clause-ids_end
returns-clause-ids_end c = id_is_checked

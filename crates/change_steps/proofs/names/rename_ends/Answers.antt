use Rattle.change_steps.proofs.NameLaws.{rename_finds_no_file, rename_asks}
use Rattle.change_steps.proofs.names.rename_ends.Goals as goal

pub returns-clause-missing : goal.returns-clause-missing
returns-clause-missing c = rename_finds_no_file

pub returns-clause-asks : goal.returns-clause-asks
returns-clause-asks c = rename_asks

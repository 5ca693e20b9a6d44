use Rattle.change_steps.proofs.NameLaws.{delete_finds_no_file, delete_asks}
use Rattle.change_steps.proofs.names.delete_ends.Goals as goal

pub returns-clause-missing : goal.returns-clause-missing
returns-clause-missing c = delete_finds_no_file

pub returns-clause-asks : goal.returns-clause-asks
returns-clause-asks c = delete_asks

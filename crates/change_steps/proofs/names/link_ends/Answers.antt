use Rattle.change_steps.proofs.NameLaws.{link_finds_no_file, link_finds_name, link_asks}
use Rattle.change_steps.proofs.names.link_ends.Goals as goal

pub returns-clause-missing : goal.returns-clause-missing
returns-clause-missing c = link_finds_no_file

pub returns-clause-named : goal.returns-clause-named
returns-clause-named c = link_finds_name

pub returns-clause-asks : goal.returns-clause-asks
returns-clause-asks c = link_asks

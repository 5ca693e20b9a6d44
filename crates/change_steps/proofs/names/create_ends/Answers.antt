use Rattle.change_steps.proofs.NameLaws.{create_finds_name, create_finds_no_id, create_asks}
use Rattle.change_steps.proofs.names.create_ends.Goals as goal

pub returns-clause-named : goal.returns-clause-named
returns-clause-named c = create_finds_name

pub returns-clause-ids_end : goal.returns-clause-ids_end
returns-clause-ids_end c = create_finds_no_id

pub returns-clause-asks : goal.returns-clause-asks
returns-clause-asks c = create_asks

use Rattle.change_steps.proofs.CheckLaws.{create_only_finds_name, create_only_finds_no_id, create_only_asks}
use Rattle.change_steps.proofs.checks.create_only_ends.Goals as goal

pub returns-clause-named : goal.returns-clause-named
returns-clause-named c = create_only_finds_name

pub returns-clause-ids_end : goal.returns-clause-ids_end
returns-clause-ids_end c = create_only_finds_no_id

pub returns-clause-asks : goal.returns-clause-asks
returns-clause-asks c = create_only_asks

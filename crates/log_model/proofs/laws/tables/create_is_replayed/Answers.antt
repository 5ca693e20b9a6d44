use Rattle.log_model.proofs.ReplayLaws.{create_is_replayed}
use Rattle.log_model.proofs.laws.tables.create_is_replayed.Goals as goal

pub returns : goal.returns
returns c = create_is_replayed

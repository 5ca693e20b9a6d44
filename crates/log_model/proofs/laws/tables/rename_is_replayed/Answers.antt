use Rattle.log_model.proofs.ReplayLaws.{rename_is_replayed}
use Rattle.log_model.proofs.laws.tables.rename_is_replayed.Goals as goal

pub returns : goal.returns
returns c = rename_is_replayed

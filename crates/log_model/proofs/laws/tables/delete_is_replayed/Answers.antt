use Rattle.log_model.proofs.ReplayLaws.{delete_is_replayed}
use Rattle.log_model.proofs.laws.tables.delete_is_replayed.Goals as goal

pub returns : goal.returns
returns c = delete_is_replayed

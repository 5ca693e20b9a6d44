use Rattle.log_model.proofs.ReplayLaws.{grow_is_replayed}
use Rattle.log_model.proofs.laws.tables.grow_is_replayed.Goals as goal

pub returns : goal.returns
returns c = grow_is_replayed

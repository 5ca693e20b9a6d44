use Rattle.log_model.proofs.ReplayLaws.{link_is_replayed}
use Rattle.log_model.proofs.laws.tables.link_is_replayed.Goals as goal

pub returns : goal.returns
returns c = link_is_replayed

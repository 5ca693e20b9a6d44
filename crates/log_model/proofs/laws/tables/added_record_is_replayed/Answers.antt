use Rattle.log_model.proofs.LogReplayLaws.{added_record_is_replayed}
use Rattle.log_model.proofs.laws.tables.added_record_is_replayed.Goals as goal

pub returns : goal.returns
returns c = added_record_is_replayed

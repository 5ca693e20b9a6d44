use Rattle.log_model.proofs.SnapshotLaws.{snapshot_is_replayed}
use Rattle.log_model.proofs.laws.tables.snapshot_is_replayed.Goals as goal

pub returns : goal.returns
returns c = snapshot_is_replayed

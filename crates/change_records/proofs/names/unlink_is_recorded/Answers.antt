use Rattle.change_records.proofs.NameRecords.{unlink_is_recorded}
use Rattle.change_records.proofs.names.unlink_is_recorded.Goals as goal

pub returns : goal.returns
returns c = unlink_is_recorded

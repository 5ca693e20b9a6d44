use Rattle.change_records.proofs.DataRecords.{recovery_point_is_recorded}
use Rattle.change_records.proofs.data.recovery_point_is_recorded.Goals as goal

pub returns : goal.returns
returns c = recovery_point_is_recorded

use Rattle.change_records.proofs.PinnedData.{recovery_point_stays_pinned}
use Rattle.change_records.proofs.pinned_data.recovery_point_stays_pinned.Goals as goal

pub returns : goal.returns
returns c = recovery_point_stays_pinned

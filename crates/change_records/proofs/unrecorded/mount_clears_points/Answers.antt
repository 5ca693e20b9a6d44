use Rattle.change_records.proofs.StepsWithoutRecord.{mount_clears_points}
use Rattle.change_records.proofs.unrecorded.mount_clears_points.Goals as goal

pub returns : goal.returns
returns c = mount_clears_points

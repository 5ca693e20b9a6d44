use Rattle.change_records.proofs.StepsWithoutRecord.{show_changes_time}
use Rattle.change_records.proofs.unrecorded.show_changes_time.Goals as goal

pub returns : goal.returns
returns c = show_changes_time

use Rattle.change_records.proofs.StepsWithoutRecord.{show_stays_writable}
use Rattle.change_records.proofs.unrecorded.show_stays_writable.Goals as goal

pub returns : goal.returns
returns c = show_stays_writable

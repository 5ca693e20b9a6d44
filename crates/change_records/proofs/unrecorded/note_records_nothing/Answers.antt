use Rattle.change_records.proofs.StepsWithoutRecord.{note_records_nothing}
use Rattle.change_records.proofs.unrecorded.note_records_nothing.Goals as goal

pub returns : goal.returns
returns c = note_records_nothing

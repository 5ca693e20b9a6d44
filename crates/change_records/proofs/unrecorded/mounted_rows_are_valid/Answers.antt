use Rattle.change_records.proofs.StepsWithoutRecord.{mounted_rows_are_valid}
use Rattle.change_records.proofs.unrecorded.mounted_rows_are_valid.Goals as goal

pub returns : goal.returns
returns c = mounted_rows_are_valid

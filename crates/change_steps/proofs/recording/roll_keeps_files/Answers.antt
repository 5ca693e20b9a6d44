use Rattle.change_steps.proofs.RecordLaws.{roll_keeps_files}
use Rattle.change_steps.proofs.recording.roll_keeps_files.Goals as goal

pub returns : goal.returns
returns c = roll_keeps_files

use Rattle.change_steps.proofs.RecordLaws.{record_keeps_files}
use Rattle.change_steps.proofs.recording.record_keeps_files.Goals as goal

pub returns : goal.returns
returns c = record_keeps_files

use Rattle.change_steps.proofs.RecordLaws.{record_goes_behind}
use Rattle.change_steps.proofs.recording.record_goes_behind.Goals as goal

pub returns : goal.returns
returns c = record_goes_behind

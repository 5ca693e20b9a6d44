use Rattle.change_steps.proofs.RecordLaws.{record_answers}
use Rattle.change_steps.proofs.recording.record_answers.Goals as goal

pub returns : goal.returns
returns c = record_answers

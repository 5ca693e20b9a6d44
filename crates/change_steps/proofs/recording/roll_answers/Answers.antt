use Rattle.change_steps.proofs.RecordLaws.{roll_answers}
use Rattle.change_steps.proofs.recording.roll_answers.Goals as goal

pub returns : goal.returns
returns c = roll_answers

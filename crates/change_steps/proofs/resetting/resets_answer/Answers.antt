use Rattle.change_steps.proofs.ResetLaws.{resets_answer}
use Rattle.change_steps.proofs.resetting.resets_answer.Goals as goal

pub returns : goal.returns
returns c = resets_answer

use Rattle.change_steps.proofs.ResetLaws.{resets_end}
use Rattle.change_steps.proofs.resetting.resets_end.Goals as goal

pub returns : goal.returns
returns c = resets_end

use Rattle.change_steps.proofs.ResetLaws.{resets_are_passed}
use Rattle.change_steps.proofs.resetting.resets_are_passed.Goals as goal

pub returns : goal.returns
returns c = resets_are_passed

use Rattle.change_steps.proofs.ResetLaws.{resets_go_on}
use Rattle.change_steps.proofs.resetting.resets_go_on.Goals as goal

pub returns : goal.returns
returns c = resets_go_on

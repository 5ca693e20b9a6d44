use Rattle.change_steps.proofs.ResetLaws.{resets_begin}
use Rattle.change_steps.proofs.resetting.resets_begin.Goals as goal

pub returns : goal.returns
returns c = resets_begin

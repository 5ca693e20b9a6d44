use Rattle.change_steps.proofs.ResetLaws.{resets_keep_files}
use Rattle.change_steps.proofs.resetting.resets_keep_files.Goals as goal

pub returns : goal.returns
returns c = resets_keep_files

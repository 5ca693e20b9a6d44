use Rattle.change_cover.proofs.ResetZones.{reset_leaves}
use Rattle.change_cover.proofs.resets.reset_leaves.Goals as goal

pub returns : goal.returns
returns c = reset_leaves

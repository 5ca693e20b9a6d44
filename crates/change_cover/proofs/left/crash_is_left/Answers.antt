use Rattle.change_cover.proofs.LeftTrees.{crash_is_left}
use Rattle.change_cover.proofs.left.crash_is_left.Goals as goal

pub returns : goal.returns
returns c = crash_is_left

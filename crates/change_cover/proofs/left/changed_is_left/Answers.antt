use Rattle.change_cover.proofs.LeftTrees.{changed_is_left}
use Rattle.change_cover.proofs.left.changed_is_left.Goals as goal

pub returns : goal.returns
returns c = changed_is_left

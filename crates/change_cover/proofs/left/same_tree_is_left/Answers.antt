use Rattle.change_cover.proofs.LeftTrees.{same_tree_is_left}
use Rattle.change_cover.proofs.left.same_tree_is_left.Goals as goal

pub returns : goal.returns
returns c = same_tree_is_left

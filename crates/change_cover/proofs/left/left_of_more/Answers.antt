use Rattle.change_cover.proofs.LeftTrees.{left_of_more}
use Rattle.change_cover.proofs.left.left_of_more.Goals as goal

pub returns : goal.returns
returns c = left_of_more

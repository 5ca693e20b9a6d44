use Rattle.change_cover.proofs.LeftTrees.{recovered_is_left}
use Rattle.change_cover.proofs.left.recovered_is_left.Goals as goal

pub returns : goal.returns
returns c = recovered_is_left

use Rattle.change_cover.proofs.ChangedTrees.{left_after_change}
use Rattle.change_cover.proofs.stored.left_after_change.Goals as goal

pub returns : goal.returns
returns c = left_after_change

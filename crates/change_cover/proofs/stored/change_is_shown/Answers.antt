use Rattle.change_cover.proofs.ChangedTrees.{change_is_shown}
use Rattle.change_cover.proofs.stored.change_is_shown.Goals as goal

pub returns : goal.returns
returns c = change_is_shown

use Rattle.change_cover.proofs.ShownTrees.{rest_mounts_shown}
use Rattle.change_cover.proofs.shown.rest_mounts_shown.Goals as goal

pub returns : goal.returns
returns c = rest_mounts_shown

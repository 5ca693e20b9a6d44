use Rattle.change_cover.proofs.ShownTrees.{crash_mounts_shown}
use Rattle.change_cover.proofs.shown.crash_mounts_shown.Goals as goal

pub returns : goal.returns
returns c = crash_mounts_shown

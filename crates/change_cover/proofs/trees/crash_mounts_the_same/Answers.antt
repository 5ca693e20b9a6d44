use Rattle.change_cover.proofs.SameTreeLaws.{crash_mounts_the_same}
use Rattle.change_cover.proofs.trees.crash_mounts_the_same.Goals as goal

pub returns : goal.returns
returns c = crash_mounts_the_same

use Rattle.change_cover.proofs.SameTreeLaws.{kept_blocks_mount_the_same}
use Rattle.change_cover.proofs.trees.kept_blocks_mount_the_same.Goals as goal

pub returns : goal.returns
returns c = kept_blocks_mount_the_same

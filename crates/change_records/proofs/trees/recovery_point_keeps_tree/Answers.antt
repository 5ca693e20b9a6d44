use Rattle.change_records.proofs.TreesAfter.{recovery_point_keeps_tree}
use Rattle.change_records.proofs.trees.recovery_point_keeps_tree.Goals as goal

pub returns : goal.returns
returns c = recovery_point_keeps_tree

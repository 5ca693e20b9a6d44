use Rattle.change_records.proofs.TreesAfter.{unlink_changes_tree}
use Rattle.change_records.proofs.trees.unlink_changes_tree.Goals as goal

pub returns : goal.returns
returns c = unlink_changes_tree

use Rattle.change_records.proofs.TreesAfter.{create_changes_tree}
use Rattle.change_records.proofs.trees.create_changes_tree.Goals as goal

pub returns : goal.returns
returns c = create_changes_tree

use Rattle.change_records.proofs.TreesAfter.{rename_changes_tree}
use Rattle.change_records.proofs.trees.rename_changes_tree.Goals as goal

pub returns : goal.returns
returns c = rename_changes_tree

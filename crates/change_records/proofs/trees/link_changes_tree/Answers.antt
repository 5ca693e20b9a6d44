use Rattle.change_records.proofs.TreesAfter.{link_changes_tree}
use Rattle.change_records.proofs.trees.link_changes_tree.Goals as goal

pub returns : goal.returns
returns c = link_changes_tree

use Rattle.change_records.proofs.TreesAfter.{replacement_keeps_tree}
use Rattle.change_records.proofs.trees.replacement_keeps_tree.Goals as goal

pub returns : goal.returns
returns c = replacement_keeps_tree

use Rattle.log_model.proofs.ReplayLaws.{replace_keeps_tree}
use Rattle.log_model.proofs.laws.tables.replace_keeps_tree.Goals as goal

pub returns : goal.returns
returns c = replace_keeps_tree

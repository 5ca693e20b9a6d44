use Rattle.log_model.proofs.AppendLaws.{part_behind_selected}
use Rattle.log_model.proofs.laws.appends.part_behind_selected.Goals as goal

pub returns : goal.returns
returns c = part_behind_selected

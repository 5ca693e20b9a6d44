use Rattle.log_model.proofs.AppendLaws.{record_behind_selected}
use Rattle.log_model.proofs.laws.appends.record_behind_selected.Goals as goal

pub returns : goal.returns
returns c = record_behind_selected

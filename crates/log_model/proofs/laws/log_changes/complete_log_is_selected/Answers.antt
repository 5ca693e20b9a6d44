use Rattle.log_model.proofs.LogChangeLaws.{complete_log_is_selected}
use Rattle.log_model.proofs.laws.log_changes.complete_log_is_selected.Goals as goal

pub returns : goal.returns
returns c = complete_log_is_selected

use Rattle.log_model.proofs.GrowingLog.{selected_log_may_grow}
use Rattle.log_model.proofs.laws.log_changes.selected_log_may_grow.Goals as goal

pub returns : goal.returns
returns c = selected_log_may_grow

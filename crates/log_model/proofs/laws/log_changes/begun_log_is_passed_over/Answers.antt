use Rattle.log_model.proofs.LogChangeLaws.{begun_log_is_passed_over}
use Rattle.log_model.proofs.laws.log_changes.begun_log_is_passed_over.Goals as goal

pub returns : goal.returns
returns c = begun_log_is_passed_over

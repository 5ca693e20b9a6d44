use Rattle.log_model.proofs.NewLogLaws.{other_may_be_reset}
use Rattle.log_model.proofs.laws.new_logs.other_may_be_reset.Goals as goal

pub returns : goal.returns
returns c = other_may_be_reset

use Rattle.log_model.proofs.NewLogCrash.{new_log_crash_mounts}
use Rattle.log_model.proofs.laws.crashes.new_log_crash_mounts.Goals as goal

pub returns : goal.returns
returns c = new_log_crash_mounts

use Rattle.log_model.proofs.MountedLogLaws.{new_log_mounts}
use Rattle.log_model.proofs.laws.mounted_logs.new_log_mounts.Goals as goal

pub returns : goal.returns
returns c = new_log_mounts

use Rattle.log_model.proofs.MountedLogLaws.{record_mounts}
use Rattle.log_model.proofs.laws.mounted_logs.record_mounts.Goals as goal

pub returns : goal.returns
returns c = record_mounts

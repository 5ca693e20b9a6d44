use Rattle.log_model.proofs.MountedLogLaws.{part_mounts}
use Rattle.log_model.proofs.laws.mounted_logs.part_mounts.Goals as goal

pub returns : goal.returns
returns c = part_mounts

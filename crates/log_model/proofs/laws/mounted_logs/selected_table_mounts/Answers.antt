use Rattle.log_model.proofs.MountedLogLaws.{selected_table_mounts}
use Rattle.log_model.proofs.laws.mounted_logs.selected_table_mounts.Goals as goal

pub returns : goal.returns
returns c = selected_table_mounts

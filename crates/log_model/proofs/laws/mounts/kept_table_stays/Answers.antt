use Rattle.log_model.proofs.KeptTable.{kept_table_stays}
use Rattle.log_model.proofs.laws.mounts.kept_table_stays.Goals as goal

pub returns : goal.returns
returns c = kept_table_stays

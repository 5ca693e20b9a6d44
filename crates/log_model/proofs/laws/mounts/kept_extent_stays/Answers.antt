use Rattle.log_model.proofs.KeptLaws.{kept_extent_stays}
use Rattle.log_model.proofs.laws.mounts.kept_extent_stays.Goals as goal

pub returns : goal.returns
returns c = kept_extent_stays

use Rattle.log_model.proofs.LogChangeLaws.{torn_zone_is_as_empty}
use Rattle.log_model.proofs.laws.log_changes.torn_zone_is_as_empty.Goals as goal

pub returns : goal.returns
returns c = torn_zone_is_as_empty

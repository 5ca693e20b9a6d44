use Rattle.log_model.proofs.LogChangeLaws.{other_zone_may_be_emptied}
use Rattle.log_model.proofs.laws.log_changes.other_zone_may_be_emptied.Goals as goal

pub returns : goal.returns
returns c = other_zone_may_be_emptied

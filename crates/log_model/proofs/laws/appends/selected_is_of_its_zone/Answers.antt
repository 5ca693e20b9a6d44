use Rattle.log_model.proofs.AppendLaws.{selected_is_of_its_zone}
use Rattle.log_model.proofs.laws.appends.selected_is_of_its_zone.Goals as goal

pub returns : goal.returns
returns c = selected_is_of_its_zone

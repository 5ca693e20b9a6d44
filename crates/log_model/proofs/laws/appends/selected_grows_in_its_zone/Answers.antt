use Rattle.log_model.proofs.AppendLaws.{selected_grows_in_its_zone}
use Rattle.log_model.proofs.laws.appends.selected_grows_in_its_zone.Goals as goal

pub returns : goal.returns
returns c = selected_grows_in_its_zone

use Rattle.log_model.proofs.HeadroomLaws.{room_for_deletion}
use Rattle.log_model.proofs.laws.headroom.room_for_deletion.Goals as goal

pub returns : goal.returns
returns c = room_for_deletion

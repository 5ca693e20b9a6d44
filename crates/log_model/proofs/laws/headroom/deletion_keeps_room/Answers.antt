use Rattle.log_model.proofs.HeadroomLaws.{deletion_keeps_room}
use Rattle.log_model.proofs.laws.headroom.deletion_keeps_room.Goals as goal

pub returns : goal.returns
returns c = deletion_keeps_room

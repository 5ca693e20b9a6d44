use Rattle.change_cover.proofs.RoomLaws.{may_mount_rolls}
use Rattle.change_cover.proofs.mounting.may_mount_rolls.Goals as goal

pub returns : goal.returns
returns c = may_mount_rolls

use Rattle.change_cover.proofs.RoomLaws.{may_mount_has_room}
use Rattle.change_cover.proofs.mounting.may_mount_has_room.Goals as goal

pub returns : goal.returns
returns c = may_mount_has_room

use Rattle.change_cover.proofs.RoomLaws.{may_mount_is_short}
use Rattle.change_cover.proofs.mounting.may_mount_is_short.Goals as goal

pub returns : goal.returns
returns c = may_mount_is_short

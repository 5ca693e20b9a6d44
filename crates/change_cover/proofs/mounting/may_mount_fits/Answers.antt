use Rattle.change_cover.proofs.RoomLaws.{may_mount_fits}
use Rattle.change_cover.proofs.mounting.may_mount_fits.Goals as goal

pub returns : goal.returns
returns c = may_mount_fits

use Rattle.change_cover.proofs.MountSteps.{mounted_shows_image}
use Rattle.change_cover.proofs.mounting.mounted_shows_image.Goals as goal

pub returns : goal.returns
returns c = mounted_shows_image

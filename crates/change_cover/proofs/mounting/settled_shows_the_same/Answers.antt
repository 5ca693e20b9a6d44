use Rattle.change_cover.proofs.MountSteps.{settled_shows_the_same}
use Rattle.change_cover.proofs.mounting.settled_shows_the_same.Goals as goal

pub returns : goal.returns
returns c = settled_shows_the_same

use Rattle.change_cover.proofs.MountSteps.{settled_stands}
use Rattle.change_cover.proofs.mounting.settled_stands.Goals as goal

pub returns : goal.returns
returns c = settled_stands

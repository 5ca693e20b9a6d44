use Rattle.change_cover.proofs.ResetZones.{reset_stands}
use Rattle.change_cover.proofs.resets.reset_stands.Goals as goal

pub returns : goal.returns
returns c = reset_stands

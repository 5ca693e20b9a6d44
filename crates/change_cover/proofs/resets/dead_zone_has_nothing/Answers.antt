use Rattle.change_cover.proofs.ResetZones.{dead_zone_has_nothing}
use Rattle.change_cover.proofs.resets.dead_zone_has_nothing.Goals as goal

pub returns : goal.returns
returns c = dead_zone_has_nothing

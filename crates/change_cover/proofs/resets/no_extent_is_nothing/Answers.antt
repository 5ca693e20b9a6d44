use Rattle.change_cover.proofs.ResetZones.{no_extent_is_nothing}
use Rattle.change_cover.proofs.resets.no_extent_is_nothing.Goals as goal

pub returns : goal.returns
returns c = no_extent_is_nothing

use Rattle.change_cover.proofs.ResetZones.{reset_mounts_the_same}
use Rattle.change_cover.proofs.resets.reset_mounts_the_same.Goals as goal

pub returns : goal.returns
returns c = reset_mounts_the_same

use Rattle.change_cover.proofs.MountSteps.{mount_clears_rows}
use Rattle.change_cover.proofs.mounting.mount_clears_rows.Goals as goal

pub returns : goal.returns
returns c = mount_clears_rows

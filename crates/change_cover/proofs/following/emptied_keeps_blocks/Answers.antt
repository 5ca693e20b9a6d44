use Rattle.change_cover.proofs.ResetZones.{emptied_keeps_blocks}
use Rattle.change_cover.proofs.following.emptied_keeps_blocks.Goals as goal

pub returns : goal.returns
returns c = emptied_keeps_blocks

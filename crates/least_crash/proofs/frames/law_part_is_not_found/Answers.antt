use Rattle.least_crash.proofs.FrameOne.{part_is_not_found}
use Rattle.least_crash.proofs.frames.law_part_is_not_found.Goals as goal

pub returns : goal.returns
returns c = part_is_not_found

use Rattle.least_crash.proofs.FrameOne.{frame_is_found}
use Rattle.least_crash.proofs.frames.law_frame_is_found.Goals as goal

pub returns : goal.returns
returns c = frame_is_found

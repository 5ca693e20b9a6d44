use Rattle.least_crash.proofs.FrameSteps.{frame_keeps_rest}
use Rattle.least_crash.proofs.growing.law_frame_keeps_rest.Goals as goal

pub returns : goal.returns
returns c = frame_keeps_rest

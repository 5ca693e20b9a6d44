use Rattle.least_crash.proofs.FrameSteps.{frame_moment_recovers}
use Rattle.least_crash.proofs.growing.law_frame_moment_recovers.Goals as goal

pub returns : goal.returns
returns c = frame_moment_recovers

use Rattle.least_crash.proofs.FillLaws.{frames_go_on}
use Rattle.least_crash.proofs.frames.law_frames_go_on.Goals as goal

pub returns : goal.returns
returns c = frames_go_on

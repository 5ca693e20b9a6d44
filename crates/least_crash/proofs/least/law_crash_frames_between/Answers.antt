use Rattle.least_crash.proofs.LeastLaws.{crash_frames_between}
use Rattle.least_crash.proofs.least.law_crash_frames_between.Goals as goal

pub returns : goal.returns
returns c = crash_frames_between

use Rattle.least_crash.proofs.DataSteps.{append_moment_recovers}
use Rattle.least_crash.proofs.growing.law_append_moment_recovers.Goals as goal

pub returns : goal.returns
returns c = append_moment_recovers

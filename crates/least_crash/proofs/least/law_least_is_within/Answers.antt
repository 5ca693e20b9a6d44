use Rattle.least_crash.proofs.LeastLaws.{least_is_within}
use Rattle.least_crash.proofs.least.law_least_is_within.Goals as goal

pub returns : goal.returns
returns c = least_is_within

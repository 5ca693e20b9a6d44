use Rattle.least_crash.proofs.DataSteps.{append_keeps_rest}
use Rattle.least_crash.proofs.growing.law_append_keeps_rest.Goals as goal

pub returns : goal.returns
returns c = append_keeps_rest

use Rattle.crash_cover.proofs.StepLaws.{reset_keeps_rest}
use Rattle.crash_cover.proofs.steps.reset_keeps_rest.Goals as goal

pub returns : goal.returns
returns c = reset_keeps_rest

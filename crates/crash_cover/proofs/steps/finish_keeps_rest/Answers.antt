use Rattle.crash_cover.proofs.StepLaws.{finish_keeps_rest}
use Rattle.crash_cover.proofs.steps.finish_keeps_rest.Goals as goal

pub returns : goal.returns
returns c = finish_keeps_rest

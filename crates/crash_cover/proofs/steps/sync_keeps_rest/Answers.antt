use Rattle.crash_cover.proofs.StepLaws.{sync_keeps_rest}
use Rattle.crash_cover.proofs.steps.sync_keeps_rest.Goals as goal

pub returns : goal.returns
returns c = sync_keeps_rest

use Rattle.crash_cover.proofs.StepLaws.{rest_is_kept}
use Rattle.crash_cover.proofs.steps.rest_is_kept.Goals as goal

pub returns : goal.returns
returns c = rest_is_kept

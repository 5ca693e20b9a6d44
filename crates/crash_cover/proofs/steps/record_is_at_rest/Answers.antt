use Rattle.crash_cover.proofs.StepLaws.{record_is_at_rest}
use Rattle.crash_cover.proofs.steps.record_is_at_rest.Goals as goal

pub returns : goal.returns
returns c = record_is_at_rest

use Rattle.crash_cover.proofs.StepLaws.{finish_moment_mounts}
use Rattle.crash_cover.proofs.steps.finish_moment_mounts.Goals as goal

pub returns : goal.returns
returns c = finish_moment_mounts

use Rattle.crash_cover.proofs.StepLaws.{reset_moment_mounts}
use Rattle.crash_cover.proofs.steps.reset_moment_mounts.Goals as goal

pub returns : goal.returns
returns c = reset_moment_mounts

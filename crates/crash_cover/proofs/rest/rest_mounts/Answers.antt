use Rattle.crash_cover.proofs.RestLaws.{rest_mounts}
use Rattle.crash_cover.proofs.rest.rest_mounts.Goals as goal

pub returns : goal.returns
returns c = rest_mounts

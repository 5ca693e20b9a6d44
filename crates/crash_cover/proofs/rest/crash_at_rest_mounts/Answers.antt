use Rattle.crash_cover.proofs.RestLaws.{crash_at_rest_mounts}
use Rattle.crash_cover.proofs.rest.crash_at_rest_mounts.Goals as goal

pub returns : goal.returns
returns c = crash_at_rest_mounts

use Rattle.crash_cover.proofs.RestLaws.{record_moment_mounts}
use Rattle.crash_cover.proofs.rest.record_moment_mounts.Goals as goal

pub returns : goal.returns
returns c = record_moment_mounts

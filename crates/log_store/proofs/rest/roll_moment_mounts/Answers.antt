use Rattle.log_store.proofs.RollLaws.{roll_moment_mounts}
use Rattle.log_store.proofs.rest.roll_moment_mounts.Goals as goal

pub returns : goal.returns
returns c = roll_moment_mounts

use Rattle.log_model.proofs.NewLogCrash.{filled_crash_leaves_part}
use Rattle.log_model.proofs.laws.crashes.filled_crash_leaves_part.Goals as goal

pub returns : goal.returns
returns c = filled_crash_leaves_part

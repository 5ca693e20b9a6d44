use Rattle.log_model.proofs.CrashLaws.{append_crash_leaves_part}
use Rattle.log_model.proofs.laws.crashes.append_crash_leaves_part.Goals as goal

pub returns : goal.returns
returns c = append_crash_leaves_part

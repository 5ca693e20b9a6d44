use Rattle.log_model.proofs.CrashLaws.{crash_keeps_fronts}
use Rattle.log_model.proofs.laws.crashes.crash_keeps_fronts.Goals as goal

pub returns : goal.returns
returns c = crash_keeps_fronts

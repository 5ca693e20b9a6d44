use Rattle.least_crash.proofs.RecoveryLaws.{crash_recovers}
use Rattle.least_crash.proofs.recovery.law_crash_recovers.Goals as goal

pub returns : goal.returns
returns c = crash_recovers

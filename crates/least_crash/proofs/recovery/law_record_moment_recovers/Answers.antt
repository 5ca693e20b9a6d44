use Rattle.least_crash.proofs.RecoveryLaws.{record_moment_recovers}
use Rattle.least_crash.proofs.recovery.law_record_moment_recovers.Goals as goal

pub returns : goal.returns
returns c = record_moment_recovers

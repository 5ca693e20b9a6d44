use Rattle.crash_cover.proofs.RecoveryLaws.{crash_recovers}
use Rattle.crash_cover.proofs.recovery.crash_recovers.Goals as goal

pub returns : goal.returns
returns c = crash_recovers

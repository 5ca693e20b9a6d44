use Rattle.crash_cover.proofs.RecordRecovery.{record_moment_recovers}
use Rattle.crash_cover.proofs.recovery.record_moment_recovers.Goals as goal

pub returns : goal.returns
returns c = record_moment_recovers

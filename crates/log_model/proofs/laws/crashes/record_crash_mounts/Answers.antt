use Rattle.log_model.proofs.RecordCrash.{record_crash_mounts}
use Rattle.log_model.proofs.laws.crashes.record_crash_mounts.Goals as goal

pub returns : goal.returns
returns c = record_crash_mounts

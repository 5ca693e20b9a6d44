use Rattle.change_records.proofs.Writable.{recovery_point_stays_writable}
use Rattle.change_records.proofs.grammar.recovery_point_stays_writable.Goals as goal

pub returns : goal.returns
returns c = recovery_point_stays_writable

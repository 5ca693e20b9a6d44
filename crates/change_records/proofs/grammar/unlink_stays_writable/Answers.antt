use Rattle.change_records.proofs.Writable.{unlink_stays_writable}
use Rattle.change_records.proofs.grammar.unlink_stays_writable.Goals as goal

pub returns : goal.returns
returns c = unlink_stays_writable

use Rattle.change_records.proofs.WritableTables.{record_keeps_writable}
use Rattle.change_records.proofs.grammar.record_keeps_writable.Goals as goal

pub returns : goal.returns
returns c = record_keeps_writable

use Rattle.change_records.proofs.Writable.{create_stays_writable}
use Rattle.change_records.proofs.grammar.create_stays_writable.Goals as goal

pub returns : goal.returns
returns c = create_stays_writable

use Rattle.change_records.proofs.Writable.{rename_stays_writable}
use Rattle.change_records.proofs.grammar.rename_stays_writable.Goals as goal

pub returns : goal.returns
returns c = rename_stays_writable

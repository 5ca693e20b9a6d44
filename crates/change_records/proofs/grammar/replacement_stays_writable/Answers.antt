use Rattle.change_records.proofs.Writable.{replacement_stays_writable}
use Rattle.change_records.proofs.grammar.replacement_stays_writable.Goals as goal

pub returns : goal.returns
returns c = replacement_stays_writable

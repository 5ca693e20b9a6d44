use Rattle.change_records.proofs.Writable.{link_stays_writable}
use Rattle.change_records.proofs.grammar.link_stays_writable.Goals as goal

pub returns : goal.returns
returns c = link_stays_writable

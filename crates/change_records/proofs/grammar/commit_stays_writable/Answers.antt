use Rattle.change_records.proofs.Writable.{commit_stays_writable}
use Rattle.change_records.proofs.grammar.commit_stays_writable.Goals as goal

pub returns : goal.returns
returns c = commit_stays_writable

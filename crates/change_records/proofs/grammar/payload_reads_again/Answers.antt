use Rattle.change_records.proofs.Writable.{payload_reads_again}
use Rattle.change_records.proofs.grammar.payload_reads_again.Goals as goal

pub returns : goal.returns
returns c = payload_reads_again

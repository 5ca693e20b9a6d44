use Rattle.log_model.proofs.TableKept.{record_keeps_table}
use Rattle.log_model.proofs.laws.tables.record_keeps_table.Goals as goal

pub returns : goal.returns
returns c = record_keeps_table

use Rattle.log_store.proofs.SettledTables.{settled_table}
use Rattle.log_store.proofs.settling.settled_table.Goals as goal

pub returns : goal.returns
returns c = settled_table

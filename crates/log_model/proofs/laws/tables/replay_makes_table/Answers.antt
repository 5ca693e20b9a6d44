use Rattle.log_model.proofs.DecodedNames.{replay_makes_table}
use Rattle.log_model.proofs.laws.tables.replay_makes_table.Goals as goal

pub returns : goal.returns
returns c = replay_makes_table

use Rattle.log_model.proofs.ReplayedSizes.{replayed_sizes_are_right}
use Rattle.log_model.proofs.laws.tables.replayed_sizes_are_right.Goals as goal

pub returns : goal.returns
returns c = replayed_sizes_are_right

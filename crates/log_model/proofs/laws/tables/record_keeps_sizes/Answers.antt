use Rattle.log_model.proofs.ReplayedSizes.{record_keeps_sizes}
use Rattle.log_model.proofs.laws.tables.record_keeps_sizes.Goals as goal

pub returns : goal.returns
returns c = record_keeps_sizes

use Rattle.log_model.proofs.NewLogLaws.{part_of_superblock}
use Rattle.log_model.proofs.laws.new_logs.part_of_superblock.Goals as goal

pub returns : goal.returns
returns c = part_of_superblock

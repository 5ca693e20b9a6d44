use Rattle.log_model.proofs.BlockLaws.{mount_reads_blocks}
use Rattle.log_model.proofs.laws.mounts.mount_reads_blocks.Goals as goal

pub returns : goal.returns
returns c = mount_reads_blocks

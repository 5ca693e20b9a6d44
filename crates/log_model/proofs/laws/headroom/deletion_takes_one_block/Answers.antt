use Rattle.log_model.proofs.HeadroomLaws.{deletion_takes_one_block}
use Rattle.log_model.proofs.laws.headroom.deletion_takes_one_block.Goals as goal

pub returns : goal.returns
returns c = deletion_takes_one_block

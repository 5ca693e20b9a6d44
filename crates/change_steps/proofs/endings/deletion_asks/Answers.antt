use Rattle.change_steps.proofs.EndingLaws.{deletion_asks}
use Rattle.change_steps.proofs.endings.deletion_asks.Goals as goal

pub returns : goal.returns
returns c = deletion_asks

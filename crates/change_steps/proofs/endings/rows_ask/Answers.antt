use Rattle.change_steps.proofs.EndingLaws.{rows_ask}
use Rattle.change_steps.proofs.endings.rows_ask.Goals as goal

pub returns : goal.returns
returns c = rows_ask

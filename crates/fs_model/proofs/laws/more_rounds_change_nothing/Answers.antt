use Rattle.fs_model.proofs.RoundLaws.{more_rounds}
use Rattle.fs_model.proofs.laws.more_rounds_change_nothing.Goals as goal

pub returns : goal.returns
returns c = more_rounds

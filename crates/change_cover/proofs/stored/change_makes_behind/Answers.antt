use Rattle.change_cover.proofs.StoredRecords.{change_makes_behind}
use Rattle.change_cover.proofs.stored.change_makes_behind.Goals as goal

pub returns : goal.returns
returns c = change_makes_behind

use Rattle.change_cover.proofs.StoredRecords.{change_makes_table}
use Rattle.change_cover.proofs.stored.change_makes_table.Goals as goal

pub returns : goal.returns
returns c = change_makes_table

use Rattle.change_cover.proofs.StoredRecords.{record_behind_roll_stands}
use Rattle.change_cover.proofs.stored.record_behind_roll_stands.Goals as goal

pub returns : goal.returns
returns c = record_behind_roll_stands

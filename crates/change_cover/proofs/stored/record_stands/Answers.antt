use Rattle.change_cover.proofs.StoredRecords.{record_stands}
use Rattle.change_cover.proofs.stored.record_stands.Goals as goal

pub returns : goal.returns
returns c = record_stands

use Rattle.change_cover.proofs.StoredRecords.{record_leaves}
use Rattle.change_cover.proofs.stored.record_leaves.Goals as goal

pub returns : goal.returns
returns c = record_leaves

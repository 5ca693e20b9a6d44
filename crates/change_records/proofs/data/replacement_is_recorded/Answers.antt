use Rattle.change_records.proofs.DataRecords.{replacement_is_recorded}
use Rattle.change_records.proofs.data.replacement_is_recorded.Goals as goal

pub returns : goal.returns
returns c = replacement_is_recorded

use Rattle.change_records.proofs.DataRecords.{commit_is_recorded}
use Rattle.change_records.proofs.data.commit_is_recorded.Goals as goal

pub returns : goal.returns
returns c = commit_is_recorded

use Rattle.change_records.proofs.PinnedData.{commit_stays_pinned}
use Rattle.change_records.proofs.pinned_data.commit_stays_pinned.Goals as goal

pub returns : goal.returns
returns c = commit_stays_pinned

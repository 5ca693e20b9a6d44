use Rattle.change_records.proofs.PinnedData.{replacement_stays_pinned}
use Rattle.change_records.proofs.pinned_data.replacement_stays_pinned.Goals as goal

pub returns : goal.returns
returns c = replacement_stays_pinned

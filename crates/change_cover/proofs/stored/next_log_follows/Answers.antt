use Rattle.change_cover.proofs.StoredRecords.{next_log_follows}
use Rattle.change_cover.proofs.stored.next_log_follows.Goals as goal

pub returns : goal.returns
returns c = next_log_follows

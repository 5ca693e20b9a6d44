use Rattle.change_records.proofs.RenameRecords.{link_is_recorded}
use Rattle.change_records.proofs.names.link_is_recorded.Goals as goal

pub returns : goal.returns
returns c = link_is_recorded

use Rattle.change_records.proofs.RenameRecords.{rename_is_recorded}
use Rattle.change_records.proofs.names.rename_is_recorded.Goals as goal

pub returns : goal.returns
returns c = rename_is_recorded

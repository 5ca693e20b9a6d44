use Rattle.change_records.proofs.NameRecords.{create_is_recorded}
use Rattle.change_records.proofs.names.create_is_recorded.Goals as goal

pub returns : goal.returns
returns c = create_is_recorded

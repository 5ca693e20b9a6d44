use Rattle.change_records.proofs.PinnedRows.{names_add_no_extent}
use Rattle.change_records.proofs.pinned.names_add_no_extent.Goals as goal

pub returns : goal.returns
returns c = names_add_no_extent

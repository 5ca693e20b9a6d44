use Rattle.change_records.proofs.PinnedRows.{rename_adds_no_extent}
use Rattle.change_records.proofs.pinned.rename_adds_no_extent.Goals as goal

pub returns : goal.returns
returns c = rename_adds_no_extent

use Rattle.change_records.proofs.PinnedRows.{create_adds_no_extent}
use Rattle.change_records.proofs.pinned.create_adds_no_extent.Goals as goal

pub returns : goal.returns
returns c = create_adds_no_extent

use Rattle.change_records.proofs.PinnedRows.{unlink_adds_no_extent}
use Rattle.change_records.proofs.pinned.unlink_adds_no_extent.Goals as goal

pub returns : goal.returns
returns c = unlink_adds_no_extent

use Rattle.crash_cover.proofs.PinnedTables.{pinned_table_stays}
use Rattle.crash_cover.proofs.pinned.pinned_table_stays.Goals as goal

pub returns : goal.returns
returns c = pinned_table_stays

use Rattle.crash_cover.proofs.PinnedTables.{pinned_is_kept}
use Rattle.crash_cover.proofs.pinned.pinned_is_kept.Goals as goal

pub returns : goal.returns
returns c = pinned_is_kept

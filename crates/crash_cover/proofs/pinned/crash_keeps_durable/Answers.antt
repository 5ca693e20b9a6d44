use Rattle.crash_cover.proofs.PinnedTables.{crash_keeps_durable}
use Rattle.crash_cover.proofs.pinned.crash_keeps_durable.Goals as goal

pub returns : goal.returns
returns c = crash_keeps_durable

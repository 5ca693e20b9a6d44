use Rattle.power_image.specs.State.{AreSettled}
use Rattle.power_image.proofs.changes.has_pending.Given as goal

-- none before the index is pending
abbrev pub invariant-loop-zone : goal.invariant-loop-zone
invariant-loop-zone l = AreSettled l.table l.from l.zone

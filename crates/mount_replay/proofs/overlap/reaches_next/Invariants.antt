use Rattle.std.proofs.Common.{ℕ, ◌+◌, ◌<◌}
use Rattle.mount_replay.specs.Neighbours.{extent_at, IsBehind}
use Rattle.mount_replay.proofs.overlap.reaches_next.Given as goal

abbrev pub invariant-loop-i : goal.invariant-loop-i
invariant-loop-i l = (k : ℕ) → k + 1 < l.i → IsBehind (extent_at l.extents k) (extent_at l.extents (k + 1))

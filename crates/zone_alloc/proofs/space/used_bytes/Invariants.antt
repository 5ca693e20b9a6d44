use Rattle.std.proofs.Common.{◌≡◌, sum_by, take}
use Rattle.zone_alloc.proofs.space.used_bytes.Given as goal

abbrev pub invariant-loop-zone : goal.invariant-loop-zone
invariant-loop-zone l = l.used ≡ sum_by (λ z. z.live_bytes) (take l.zone-index l.zones)

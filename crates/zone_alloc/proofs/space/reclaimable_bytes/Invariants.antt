use Rattle.std.proofs.Common.{◌≡◌, ◌+◌, ◌*◌, ◌≤◌, sum_by}
use Rattle.fs_model.specs.ZonePolicy.{data_zones, unused_bytes}
use Rattle.zone_alloc.proofs.ZoneWalks.{zones_from}
use Rattle.zone_alloc.proofs.space.reclaimable_bytes.Given as goal

abbrev pub invariant-loop-i : goal.invariant-loop-i
invariant-loop-i l =
    (l.unused + sum_by (unused_bytes l.geometry) (zones_from l.i l.zones) ≡ sum_by (unused_bytes l.geometry) (data_zones l.zones))
    × (l.unused ≤ l.i * (l.geometry.capacity * l.geometry.block))

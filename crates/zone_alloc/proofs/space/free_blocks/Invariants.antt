use Rattle.std.proofs.Common.{◌≡◌, ◌+◌, ◌*◌, ◌≤◌, sum_by}
use Rattle.fs_model.specs.ZonePolicy.{data_zones, room_of}
use Rattle.zone_alloc.proofs.ZoneWalks.{zones_from}
use Rattle.zone_alloc.proofs.space.free_blocks.Given as goal

abbrev pub invariant-loop-i : goal.invariant-loop-i
invariant-loop-i l =
    (l.free + sum_by (λ z. room_of l.capacity z.1) (zones_from l.i l.zones) ≡ sum_by (λ z. room_of l.capacity z.1) (data_zones l.zones))
    × (l.free + 3 * l.capacity ≤ l.i * l.capacity)

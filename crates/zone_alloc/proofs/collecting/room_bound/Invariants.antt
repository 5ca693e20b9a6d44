use Rattle.std.proofs.Common.{◌≡◌, ◌≤◌}
use Rattle.zone_alloc.specs.Destinations.{room_bound}
use Rattle.zone_alloc.proofs.ZoneWalks.{zones_from}
use Rattle.zone_alloc.proofs.collecting.room_bound.Given as goal

abbrev pub invariant-loop-i : goal.invariant-loop-i
invariant-loop-i l = (3 ≤ l.i) × (l.bound ≡ room_bound l.capacity (zones_from l.i l.zones))

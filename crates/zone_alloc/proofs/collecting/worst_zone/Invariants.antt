use Rattle.std.proofs.Common.{◌≡◌, ◌≤◌, filter}
use Rattle.fs_model.specs.ZonePolicy.{least}
use Rattle.zone_alloc.specs.Destinations.{live_percent, is_eligible}
use Rattle.zone_alloc.proofs.ZoneWalks.{zones_from}
use Rattle.zone_alloc.proofs.collecting.worst_zone.Given as goal

abbrev pub invariant-loop-i : goal.invariant-loop-i
invariant-loop-i l =
    (3 ≤ l.i)
    × (l.worst ≡ least (live_percent l.destinations.capacity) (filter (is_eligible l.threshold l.destinations) (zones_from l.i l.zones)))

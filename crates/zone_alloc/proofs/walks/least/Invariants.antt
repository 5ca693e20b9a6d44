use Rattle.std.proofs.Common.{◌≡◌, ◌≤◌, filter}
use Rattle.fs_model.specs.ZonePolicy.{least}
use Rattle.zone_alloc.specs.ZoneTests.{is_wanted, numbered_key}
use Rattle.zone_alloc.proofs.ZoneWalks.{zones_from}
use Rattle.zone_alloc.proofs.walks.least.Given as goal

abbrev pub invariant-loop-i : goal.invariant-loop-i
invariant-loop-i l = (3 ≤ l.i) × (l.best ≡ least (numbered_key l.key) (filter (is_wanted l.test) (zones_from l.i l.zones)))

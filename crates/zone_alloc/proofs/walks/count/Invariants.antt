use Rattle.std.proofs.Common.{◌≡◌, ◌+◌, ◌≤◌, count_by}
use Rattle.fs_model.specs.ZonePolicy.{data_zones}
use Rattle.zone_alloc.specs.ZoneTests.{is_wanted}
use Rattle.zone_alloc.proofs.ZoneWalks.{zones_from}
use Rattle.zone_alloc.proofs.walks.count.Given as goal

abbrev pub invariant-loop-i : goal.invariant-loop-i
invariant-loop-i l =
    (l.found + count_by (is_wanted l.test) (zones_from l.i l.zones) ≡ count_by (is_wanted l.test) (data_zones l.zones)) × (l.found ≤ l.i)

use Rattle.std.proofs.Common.{◌≡◌, ◌++◌, map, take, drop}
use Rattle.power_image.specs.Table.{zone_kept}
use Rattle.power_image.proofs.table.keep_all.Given as goal

-- those before the index are kept
abbrev pub invariant-loop-zone : goal.invariant-loop-zone
invariant-loop-zone l = l.zones ≡ map zone_kept (take l.zone-index l.initial.zones) ++ drop l.zone-index l.initial.zones

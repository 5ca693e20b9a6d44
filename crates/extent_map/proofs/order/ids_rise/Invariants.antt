use Rattle.std.proofs.Common.{◌≡◌, drop}
use Rattle.extent_map.specs.IdOrder.{rise_from}
use Rattle.extent_map.specs.Records.{recorded_of}
use Rattle.extent_map.proofs.order.ids_rise.Given as goal

-- the ids so far rise, and the next one is to be this or more
abbrev pub invariant-loop-row : goal.invariant-loop-row
invariant-loop-row l = rise_from l.least (recorded_of (drop l.row-index l.rows)) ≡ rise_from 0 (recorded_of l.rows)

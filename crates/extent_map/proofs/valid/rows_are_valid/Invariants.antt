use Rattle.std.proofs.Common.{take}
use Rattle.std.specs.List.{AllByRecursion}
use Rattle.extent_map.specs.Sound.{IsRow}
use Rattle.extent_map.proofs.valid.rows_are_valid.Given as goal

-- the rows so far are sound
abbrev pub invariant-loop-row : goal.invariant-loop-row
invariant-loop-row l = AllByRecursion IsRow (take l.row-index l.rows)

use Rattle.std.proofs.Common.{◌≡◌, take}
use Rattle.extent_map.proofs.records.copy_rows.Given as goal

-- the files so far
abbrev pub invariant-loop-row : goal.invariant-loop-row
invariant-loop-row l = l.copies.items ≡ take l.row-index l.rows

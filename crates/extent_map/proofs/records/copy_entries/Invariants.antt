use Rattle.std.proofs.Common.{◌≡◌, take}
use Rattle.extent_map.specs.Records.{recorded_of}
use Rattle.extent_map.proofs.records.copy_entries.Given as goal

-- the entries so far
abbrev pub invariant-loop-row : goal.invariant-loop-row
invariant-loop-row l = l.entries.items ≡ recorded_of (take l.row-index l.rows)

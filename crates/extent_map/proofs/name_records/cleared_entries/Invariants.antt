use Rattle.std.proofs.Common.{◌≡◌, map, take}
use Rattle.fs_model.specs.TreeSteps.{cleared}
use Rattle.extent_map.specs.Records.{recorded_of}
use Rattle.extent_map.proofs.name_records.cleared_entries.Given as goal

abbrev pub invariant-loop-row : goal.invariant-loop-row
invariant-loop-row l = l.entries.items ≡ recorded_of (map cleared (take l.row-index l.rows))

use Rattle.std.proofs.Common.{◌≡◌, drop}
use Rattle.fs_model.specs.FsState.{row_named}
use Rattle.extent_map.proofs.lookups.row_named.Given as goal

-- the row is among the rest
abbrev pub invariant-loop-row : goal.invariant-loop-row
invariant-loop-row l = row_named l.name (drop l.row-index l.rows) ≡ row_named l.name l.rows

use Rattle.std.proofs.Common.{◌≡◌, drop}
use Rattle.fs_model.specs.FsState.{row_named}
use Rattle.extent_map.proofs.links.index_named.Given as goal

-- the row is among the rest
abbrev pub invariant-loop-i : goal.invariant-loop-i
invariant-loop-i l = row_named l.name (drop l.i l.rows) ≡ row_named l.name l.rows

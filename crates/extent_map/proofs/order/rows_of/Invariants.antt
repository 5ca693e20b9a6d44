use Rattle.std.proofs.Common.{◌≡◌, take}
use Rattle.extent_map.specs.Applying.{rows_of}
use Rattle.extent_map.proofs.order.rows_of.Given as goal

-- the rows so far
abbrev pub invariant-loop-file : goal.invariant-loop-file
invariant-loop-file l = l.rows.items ≡ rows_of (take l.file-index l.files)

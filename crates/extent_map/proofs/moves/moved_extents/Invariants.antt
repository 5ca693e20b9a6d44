use Rattle.std.proofs.Common.{◌≡◌}
use Rattle.extent_map.proofs.MoveLaws.{moved_to}
use Rattle.extent_map.proofs.moves.moved_extents.Given as goal

-- so many extents are moved
abbrev pub invariant-loop-i : goal.invariant-loop-i
invariant-loop-i l = l.list.items ≡ moved_to l.moves l.i l.initial.list.items

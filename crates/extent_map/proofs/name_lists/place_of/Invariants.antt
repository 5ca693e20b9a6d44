use Rattle.std.proofs.Common.{◌≡◌, drop}
use Rattle.log_model.specs.FileTable.{is_among}
use Rattle.extent_map.proofs.name_lists.place_of.Given as goal

-- the name is among the rest, if it is there
abbrev pub invariant-loop-i : goal.invariant-loop-i
invariant-loop-i l = is_among (drop l.i l.names) l.name ≡ is_among l.names l.name

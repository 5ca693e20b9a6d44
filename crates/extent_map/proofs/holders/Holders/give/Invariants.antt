use Rattle.std.proofs.Common.{◌≡◌, ℕ, List, Some, take, if◌then◌else◌}
use Rattle.log_model.specs.FileTable.{is_among}
use Rattle.extent_map.specs.Holding.{holder_of}
use Rattle.extent_map.proofs.holders.Holders.give.Given as goal

-- the first names are given
abbrev pub invariant-loop-name : goal.invariant-loop-name
invariant-loop-name l =
    (name : List ℕ) → holder_of name l.self ≡ (if is_among (take l.name-index l.names) name then Some l.id else holder_of name l.initial.self)

use Rattle.std.proofs.Common.{◌≡◌, ℕ, ◌||◌, List, take}
use Rattle.log_model.specs.FileTable.{is_among}
use Rattle.record_codec.specs.NameSets.{has_name}
use Rattle.extent_map.proofs.repeated_names.add_names.Given as goal

-- the set has the names so far, and those that it had
abbrev pub invariant-loop-name : goal.invariant-loop-name
invariant-loop-name l = (name : List ℕ) → has_name l.seen name ≡ (is_among (take l.name-index l.names) name || has_name l.fn.seen name)

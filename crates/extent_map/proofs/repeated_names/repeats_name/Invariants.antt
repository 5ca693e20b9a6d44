use Rattle.std.proofs.Common.{◌≡◌, ℕ, ◌-◌, false, List, drop, length}
use Rattle.std.specs.List.{list_any}
use Rattle.log_model.specs.FileTable.{is_among, repeats_name}
use Rattle.record_codec.specs.NameSets.{has_name}
use Rattle.extent_map.proofs.repeated_names.repeats_name.Given as goal

-- no name stands in two of the last entries, and the set has all their names
abbrev pub invariant-loop-i : goal.invariant-loop-i
invariant-loop-i l =
    (repeats_name (drop (length l.files - l.i) l.files) ≡ false)
    × ((name : List ℕ) → has_name l.seen name ≡ list_any (λ f. is_among f.names name) (drop (length l.files - l.i) l.files))

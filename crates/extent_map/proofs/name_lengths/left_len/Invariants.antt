use Rattle.std.proofs.Common.{◌≡◌, [], ◌∷◌, length, take}
use Rattle.std.specs.List.{flat_map}
use Rattle.record_codec.specs.Length.{told}
use Rattle.log_model.specs.FileTable.{names_left}
use Rattle.extent_map.specs.RowsAfter.{names_bytes}
use Rattle.extent_map.proofs.name_lengths.left_len.Given as goal

-- the bytes of the names so far
abbrev pub invariant-loop-name : goal.invariant-loop-name
invariant-loop-name l = l.len ≡ told (length (flat_map (λ n. names_bytes (names_left l.taken (n ∷ []))) (take l.name-index l.names)))

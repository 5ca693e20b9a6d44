use Rattle.std.proofs.Common.{◌≡◌, ℕ, List, length, take}
use Rattle.record_codec.specs.Length.{told}
use Rattle.extent_map.specs.RowsAfter.{rows_after, AreNamesOf, entries_bytes}
use Rattle.extent_map.proofs.rows_after.entries_len_after.Given as goal

-- the bytes of the entries so far
abbrev pub invariant-loop-row : goal.invariant-loop-row
invariant-loop-row l =
    (names : List (List ℕ)) → AreNamesOf l.names_len names → l.len ≡ told (length (entries_bytes (rows_after l.id names l.taken (take l.row-index l.rows))))

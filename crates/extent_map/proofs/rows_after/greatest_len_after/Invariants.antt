use Rattle.std.proofs.Common.{◌≡◌, ℕ, List, take}
use Rattle.record_codec.specs.Length.{told}
use Rattle.fs_model.specs.FsState.{working_of}
use Rattle.extent_map.specs.Records.{greatest_len}
use Rattle.extent_map.specs.RowsAfter.{rows_after, AreNamesOf}
use Rattle.extent_map.proofs.rows_after.greatest_len_after.Given as goal

-- the longest update so far
abbrev pub invariant-loop-row : goal.invariant-loop-row
invariant-loop-row l =
    (names : List (List ℕ)) → AreNamesOf l.names_len names → l.greatest ≡ told (greatest_len (working_of (rows_after l.id names l.taken (take l.row-index l.rows))))

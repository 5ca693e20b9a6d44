use Rattle.std.proofs.Common.{◌≡◌, max, drop}
use Rattle.record_codec.specs.Length.{told}
use Rattle.fs_model.specs.FsState.{working_of}
use Rattle.extent_map.specs.ExtentLengths.{rows_with_extent}
use Rattle.extent_map.specs.Records.{greatest_len}
use Rattle.extent_map.proofs.extent_lengths.longest_with_extent.Given as goal

-- the longest so far, and the rest
abbrev pub invariant-loop-row : goal.invariant-loop-row
invariant-loop-row l =
    max l.greatest (told (greatest_len (working_of (rows_with_extent l.id (drop l.row-index l.rows))))) ≡ told (greatest_len (working_of (rows_with_extent l.id l.rows)))

use Rattle.std.proofs.Common.{◌≡◌, length, take}
use Rattle.std.specs.List.{flat_map}
use Rattle.record_model.specs.Encoding.{entry_bytes, slice}
use Rattle.record_codec.specs.Length.{told}
use Rattle.fs_model.specs.FsState.{working_entry}
use Rattle.extent_map.specs.ExtentLengths.{row_with_extent}
use Rattle.extent_map.proofs.extent_lengths.entries_len_with_extent.Given as goal

-- the bytes of the entries so far
abbrev pub invariant-loop-row : goal.invariant-loop-row
invariant-loop-row l = l.len ≡ told (length (flat_map (λ r. slice (entry_bytes (working_entry (row_with_extent l.id r)))) (take l.row-index l.rows)))

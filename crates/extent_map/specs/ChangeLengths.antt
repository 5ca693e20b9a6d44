-- The lengths of records that a change brings.
use Rattle.std.specs.Prelude.{◌≡◌, ◌+◌, ◌≤◌, List, length}
use Rattle.record_model.specs.Encoding.{payload_of}
use Rattle.record_model.specs.declared.types.Record.{Record}
use Rattle.record_codec.specs.Length.{told}
use Rattle.fs_model.specs.FsState.{TableRow, working_of}
use Rattle.extent_map.specs.Records.{snapshot_len, greatest_len}
use Rattle.extent_map.specs.declared.change_lengths.ChangeLengths.{ChangeLengths}

-- the lengths of this record, and of the snapshot and the longest update of the rows after it; each stops at the greatest 64-bit number
pub record TellsLengths (l : ChangeLengths) (r : Record) (after : List TableRow) : Type 0 where
  pub change : l.change_bytes ≡ told (length (payload_of r))
  pub snapshot : l.snapshot_bytes ≡ told (snapshot_len after)
  pub longest : l.longest_bytes ≡ told (greatest_len (working_of after))

-- the snapshot of the rows after a change, and this record, are longer than the snapshot of those before by 512 bytes at most
pub record IsLittleLonger (before after : List TableRow) (r : Record) : Type 0 where
  pub rows : snapshot_len after ≤ snapshot_len before + 512
  pub change : length (payload_of r) ≤ snapshot_len before + 512

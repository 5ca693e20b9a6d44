-- What changes need of the metadata zones.
use Rattle.std.specs.Prelude.{◌≡◌, ◌+◌, ◌^◌, ◌<◌, List, length}
use Rattle.record_model.specs.Encoding.{payload_of}
use Rattle.record_model.specs.declared.types.Record.{Record}
use Rattle.record_model.specs.declared.types.Record.TheVariants.{Snapshot}
use Rattle.log_model.specs.FileTable.{Table}
use Rattle.log_model.specs.Headroom.{blocks_of_record}
use Rattle.fs_model.specs.FsState.{FsState, TableRow}
use Rattle.fs_model.specs.LogSteps.{block_of, rows_need}
use Rattle.extent_map.specs.Records.{greatest_len}
use Rattle.extent_map.specs.declared.change_lengths.ChangeLengths.{ChangeLengths}
use Rattle.fs_tables.specs.declared.blocks.ChangeNeed.{ChangeNeed}

-- the blocks of this record, and what the change with it to these rows needs
pub record IsNeed (n : ChangeNeed) (s : FsState) (r : Record) (after : List TableRow) : Type 0 where
  pub change : n.blocks ≡ blocks_of_record (block_of s) r
  pub room : n.need ≡ rows_need s after (blocks_of_record (block_of s) r)

-- lengths that a machine can hold
pub record AreShort (l : ChangeLengths) : Type 0 where
  pub change : l.change_bytes < 2 ^ 62 + 2 ^ 60
  pub snapshot : l.snapshot_bytes < 2 ^ 62 + 2 ^ 60
  pub longest : l.longest_bytes < 2 ^ 62 + 2 ^ 60

-- the lengths of this record, and of the snapshot and the longest update of this table
pub record AreLengths (l : ChangeLengths) (r : Record) (after : Table) : Type 0 where
  pub change : l.change_bytes ≡ length (payload_of r)
  pub snapshot : l.snapshot_bytes ≡ length (payload_of (Snapshot after))
  pub longest : l.longest_bytes ≡ greatest_len after

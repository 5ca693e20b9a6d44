-- Room for metadata in one zone.
use Rattle.std.specs.Prelude.{ℕ, ◌+◌, Bool, max, [], ◌∷◌, length, nat_le}
use Rattle.record_model.specs.Encoding.{payload_of}
use Rattle.record_model.specs.declared.types.Record.{Record}
use Rattle.record_model.specs.declared.types.Record.TheVariants.{Snapshot, Update}
use Rattle.log_model.specs.LogScan.{blocks_of}
use Rattle.log_model.specs.FileTable.{Table}

-- the blocks of a record
abbrev pub blocks_of_record : ℕ → Record → ℕ
blocks_of_record block r = blocks_of block (length (payload_of r))

-- the blocks of the superblock's record
abbrev pub superblock_blocks : ℕ → ℕ
superblock_blocks block = blocks_of block 512

-- the blocks of a table's snapshot
abbrev pub snapshot_blocks : ℕ → Table → ℕ
snapshot_blocks block es = blocks_of_record block (Snapshot es)

-- the blocks of the greatest update that has a whole entry
abbrev pub greatest_record : ℕ → Table → ℕ
greatest_record block [] = 0
greatest_record block (e ∷ es) = max (blocks_of_record block (Update e)) (greatest_record block es)

-- the same, and at least one
abbrev pub greatest_blocks : ℕ → Table → ℕ
greatest_blocks block es = max 1 (greatest_record block es)

-- what a new log needs to take the table and the greatest of its records
unfoldable pub log_need : ℕ → Table → ℕ
log_need block es = superblock_blocks block + snapshot_blocks block es + greatest_blocks block es + 1

-- what a new log needs to take the table before a change, and the change
unfoldable pub change_need : ℕ → Table → ℕ → ℕ
change_need block before record_len = superblock_blocks block + snapshot_blocks block before + record_len + 1

-- a table that a new log can take
abbrev pub has_room : ℕ → ℕ → Table → Bool
has_room capacity block es = nat_le (log_need block es) capacity

-- what a change to the table after it needs, its record having so many blocks
abbrev pub need_of : ℕ → Table → Table → ℕ → ℕ
need_of block before after record_len = max (log_need block after) (change_need block before record_len)

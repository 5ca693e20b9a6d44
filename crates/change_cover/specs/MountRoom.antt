-- Room for the log with which a mount begins to write.
use Rattle.std.specs.Prelude.{◌≡◌, ℕ, ◌+◌, ◌^◌, ◌<◌, ◌≤◌, IsTrue, false, true, length, map, nat_lt, Ok}
use Rattle.zone_image.specs.Image.{is_valid}
use Rattle.record_model.specs.Encoding.{payload_of}
use Rattle.record_model.specs.declared.types.Record.TheVariants.{Snapshot}
use Rattle.log_model.specs.Headroom.{has_room, log_need, snapshot_blocks, superblock_blocks}
use Rattle.fs_model.specs.FsState.{FsState, recorded, working, working_of}
use Rattle.fs_model.specs.LogSteps.{at_sequence_end, block_of}
use Rattle.fs_model.specs.TreeSteps.{cleared}
use Rattle.log_roll.specs.Rolling.{roll_refusal}
use Rattle.change_records.specs.Recorded.{entries}
use Rattle.change_cover.specs.Rests.{AreShown}

-- rows without recovery points need no more room
pub record NeedsNoMore (block : ℕ) (s : FsState) : Type 0 where
  pub snapshot : snapshot_blocks block (entries (map cleared s.rows)) ≤ snapshot_blocks block (recorded s)
  pub log : log_need block (working_of (map cleared s.rows)) ≤ log_need block (working s)

-- so it is where all is shown
abbrev pub ClearedNeedsNoMore : Type 0
ClearedNeedsNoMore = (block : ℕ) (s : FsState) → 512 ≤ block → AreShown s.rows → NeedsNoMore block s

-- what a mount for writing tests beforehand: a sequence is left, and a log takes the table and its greatest record
pub record MayMount (s : FsState) : Type 0 where
  pub sequence : at_sequence_end s ≡ false
  pub room : nat_lt s.geometry.capacity (log_need (block_of s) (working s)) ≡ false

-- then the roll isn't refused
abbrev pub MayMountRolls : Type 0
MayMountRolls = (s : FsState) → 512 ≤ s.geometry.block → AreShown s.rows → MayMount s
    → roll_refusal s.geometry s.log (length (payload_of (Snapshot (entries (map cleared s.rows))))) ≡ Ok tt

-- its blocks leave room in a zone
abbrev pub MayMountFits : Type 0
MayMountFits = (s : FsState) → 512 ≤ s.geometry.block → AreShown s.rows → MayMount s
    → superblock_blocks s.geometry.block + snapshot_blocks s.geometry.block (entries (map cleared s.rows)) < s.geometry.capacity

-- the snapshot's length is below the greatest of a record
abbrev pub MayMountIsShort : Type 0
MayMountIsShort = (s : FsState) → IsTrue (is_valid s.geometry) → AreShown s.rows → MayMount s → length (payload_of (Snapshot (entries (map cleared s.rows)))) < 2 ^ 32

-- and the table has room behind it
abbrev pub MayMountHasRoom : Type 0
MayMountHasRoom = (s : FsState) → 512 ≤ s.geometry.block → AreShown s.rows → MayMount s
    → has_room s.geometry.capacity s.geometry.block (working_of (map cleared s.rows)) ≡ true

-- The record of a change that is stored on a device.
use Rattle.std.specs.Prelude.{◌≡◌, ℕ, ◌+◌, true, false, List, [], ◌∷◌, length, Ok, MatchOption}
use Rattle.zone_image.specs.Image.{Image}
use Rattle.record_model.specs.Decoding.{record_of}
use Rattle.record_model.specs.Encoding.{payload_of}
use Rattle.record_model.specs.declared.types.Record.{Record}
use Rattle.record_model.specs.declared.types.Record.TheVariants.{Snapshot}
use Rattle.log_model.specs.declared.selection.Chosen.{Chosen}
use Rattle.log_model.specs.FileTree.{Change, apply}
use Rattle.log_model.specs.Headroom.{snapshot_blocks, superblock_blocks}
use Rattle.log_model.specs.LogScan.{record_blocks}
use Rattle.fs_model.specs.CrashClauses.{shown_tree}
use Rattle.fs_model.specs.FsState.{FsState, TableRow, recorded}
use Rattle.fs_model.specs.LogSteps.{must_roll}
use Rattle.change_cover.specs.Left.{IsLeftOf}
use Rattle.change_cover.specs.Rests.{AreShown, Becomes, Stands}
use Rattle.change_cover.specs.Stored.{IsChange, blocks_on}
use Rattle.fs_tables.specs.Steps.{TakesRecord}
use Rattle.fs_core.specs.declared.prepared.PreparedRecord.{PreparedRecord}
use Rattle.fs_core.specs.declared.prepared.PreparedRoll.{PreparedRoll}

-- the blocks of the log that a roll makes
abbrev pub new_log_blocks : FsState → ℕ
new_log_blocks s = superblock_blocks s.geometry.block + snapshot_blocks s.geometry.block (recorded s)

-- the memory of a roll of the state's log
pub record IsRollOf (s : FsState) (p : PreparedRoll) : Type 0 where
  pub snapshot : p.snapshot ≡ payload_of (Snapshot (recorded s))
  pub reads : record_of p.snapshot ≡ Ok (Snapshot (recorded s))
  pub blocks : p.blocks ≡ new_log_blocks s
  pub buffer : p.buffer ≡ record { block = s.geometry.block; capacity = s.geometry.capacity; len = length p.snapshot }

-- the log takes a record of so many blocks as it is
pub record TakesAsItIs (s : FsState) (blocks : ℕ) : Type 0 where
  pub room : TakesRecord s blocks
  pub stays : must_roll s blocks ≡ false

-- the log must roll before it, and there is the memory of that
pub record TakesRolled (s : FsState) (blocks : ℕ) (p : PreparedRoll) : Type 0 where
  pub rolls : must_roll s blocks ≡ true
  pub memory : IsRollOf s p

-- the record is spelled for the state's log, and where that must roll there is the memory of it
pub record HasMemory (s : FsState) (p : PreparedRecord) : Type 0 where
  pub block : p.added.block ≡ s.geometry.block
  pub rolled : MatchOption p.rolled (TakesAsItIs s (length p.added.blocks)) (TakesRolled s (length p.added.blocks))

-- so it is for this record
pub record IsPrepared (s : FsState) (r : Record) (p : PreparedRecord) : Type 0 where
  pub spelled : p.added.blocks ≡ record_blocks s.geometry.block (payload_of r)
  pub memory : HasMemory s p

-- once these blocks are added to the log of an image on which a state stands, the state after the change stands whose record they are
abbrev pub StoresChange : List (List ℕ) → Image → FsState → Image → Chosen → Type 0
StoresChange blocks i s j counts = (c : Change) (r : Record) (after : List TableRow) (next : FsState) → Stands i s → IsChange s c r after → blocks ≡ blocks_on i r
    → Becomes counts after next → AreShown after → Stands j next

-- a crash while they are added leaves the tree shown before that change, or the one after it
abbrev pub LeavesChange : List (List ℕ) → Image → FsState → Image → Type 0
LeavesChange blocks i s j = (c : Change) (r : Record) (after : List TableRow) → Stands i s → IsChange s c r after → blocks ≡ blocks_on i r
    → IsLeftOf i (shown_tree i s ∷ apply c (shown_tree i s) ∷ []) j

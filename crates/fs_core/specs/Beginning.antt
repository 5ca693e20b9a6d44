-- A mount that begins to write.
use Rattle.std.specs.Prelude.{◌≡◌, ℕ, ◌⊎◌, ◌≤◌, Bool, true, false, List, length, map, Result, Err}
use Rattle.zone_image.specs.declared.ZoneInfo.{ZoneInfo}
use Rattle.zone_image.specs.Image.{Image, IsCrash, zone_at}
use Rattle.zone_image.specs.Infos.{info_at}
use Rattle.record_model.specs.Encoding.{payload_of}
use Rattle.record_model.specs.declared.types.Record.TheVariants.{Snapshot}
use Rattle.fs_model.specs.declared.error.FsError.{FsError}
use Rattle.fs_model.specs.declared.error.FsError.TheVariants.{DevFault, MetaFull, NoMemory, SequenceEnd}
use Rattle.fs_model.specs.FsState.{FsState}
use Rattle.fs_model.specs.TreeSteps.{cleared}
use Rattle.log_roll.specs.RollMemory.{RollMemory}
use Rattle.change_records.specs.Recorded.{entries}
use Rattle.change_cover.specs.SameTrees.{MountsTheSame}

-- the payload of the snapshot of what is recorded, without recovery points
abbrev pub cleared_payload : FsState → List ℕ
cleared_payload s = payload_of (Snapshot (entries (map cleared s.rows)))

-- the memory for a new log: its snapshot's payload, and room for a roll with it
pub record IsReady (s : FsState) (snapshot : List ℕ) (buffer : RollMemory) : Type 0 where
  pub payload : snapshot ≡ cleared_payload s
  pub block : buffer.block ≡ s.geometry.block
  pub capacity : buffer.capacity ≡ s.geometry.capacity
  pub len : length snapshot ≤ buffer.len

-- what a crash leaves while a mount begins to write: of the image that stood, or exactly its tree
abbrev pub LeftByBeginning : Image → Image → Type 0
LeftByBeginning i j = IsCrash i j ⊎ MountsTheSame i j

-- the data zones in which nothing changed have their blocks and their numbers of them
pub record KeepsWritten {D : Type 0} (infos : D → List ZoneInfo) (tells : Type 0) (image : D → Image) (changed : ℕ → Bool) (old new : D) : Type 0 where
  pub written : (n : ℕ) → 3 ≤ n → changed n ≡ false → (info_at (infos new) n).written ≡ (info_at (infos old) n).written
  pub blocks : tells → (n : ℕ) → 3 ≤ n → changed n ≡ false → (zone_at (image new) n).blocks ≡ (zone_at (image old) n).blocks

-- whether the mount is stopped after this answer
abbrev pub stopped_by : {A : Type 0} → Bool → Result A FsError → Bool
stopped_by before (Err DevFault) = true
stopped_by before _ = before

-- a refusal that comes before the device is called, on a mount that isn't stopped
abbrev pub IsBeforehand : FsError → Type 0
IsBeforehand SequenceEnd = Unit {0}
IsBeforehand (MetaFull need capacity) = Unit {0}
IsBeforehand NoMemory = Unit {0}
IsBeforehand _ = ⊥

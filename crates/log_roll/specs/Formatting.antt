-- What formatting a device passes.
use Rattle.std.specs.Prelude.{◌≡◌, ℕ, ◌⊎◌, List, [], ◌∷◌}
use Rattle.zone_image.specs.declared.Geometry.{Geometry}
use Rattle.zone_image.specs.Image.{Image, IsCrash}
use Rattle.zone_image.specs.Changes.{blank, synced}
use Rattle.record_model.specs.Encoding.{payload_of}
use Rattle.record_model.specs.declared.types.Record.TheVariants.{Snapshot}
use Rattle.superblock_core.specs.Superblock.{superblock_bytes}
use Rattle.superblock_core.specs.declared.superblock.Superblock.{Superblock}
use Rattle.log_model.specs.LogScan.{record_blocks}
use Rattle.log_model.specs.Format.{reset_order}
use Rattle.zoned_device.specs.DeviceSteps.{Then}
use Rattle.log_roll.specs.Resets.{CrashesMetadata, PassedByThreeResets, emptied_three}
use Rattle.log_roll.specs.NewLog.{PassedByNewLog, begun}
use Rattle.log_roll.specs.FormatLeaves.{FormatLeaves, HasLogs}

-- a sync, and the resets of the metadata zones
abbrev pub PassedByFirstResets : ℕ → ℕ → ℕ → Image → Image → Type 0
PassedByFirstResets first second third = Then (λ i. IsCrash i) synced (PassedByThreeResets first second third)

-- the same, and then the resets of the data zones
abbrev pub PassedByEmptying : ℕ → ℕ → ℕ → Image → Image → Type 0
PassedByEmptying first second third =
    Then (PassedByFirstResets first second third) (λ i. emptied_three (synced i) first second third) CrashesMetadata

-- a new log in zone 0, and a sync
abbrev pub PassedByFirstLog : List (List ℕ) → List (List ℕ) → Image → Image → Type 0
PassedByFirstLog superblock snapshot = Then (PassedByNewLog 0 superblock snapshot) (begun 0 superblock snapshot) (λ i. IsCrash i)

-- all of it
abbrev pub PassedByFormat : Geometry → ℕ → ℕ → ℕ → List (List ℕ) → List (List ℕ) → Image → Image → Type 0
PassedByFormat g first second third superblock snapshot =
    Then (PassedByEmptying first second third) (λ _. blank g) (PassedByFirstLog superblock snapshot)

-- The same with the metadata zones in their order: those that don't begin with a superblock that can be read, and then the others by rising sequence.
pub record PassedInOrder (g : Geometry) (s : Superblock) (i j : Image) : Type 0 where
  pub first : ℕ
  pub second : ℕ
  pub third : ℕ
  pub order : (first ∷ second ∷ third ∷ []) ≡ reset_order i
  pub passed : PassedByFormat g first second third (record_blocks g.block (superblock_bytes s)) (record_blocks g.block (payload_of (Snapshot []))) i j

-- What a crash leaves at some moment of formatting; of an image whose every crash has a log that counts, it is one of three cases.
pub record LeftByFormat (g : Geometry) (s : Superblock) (i j : Image) : Type 0 where
  pub moment : IsCrash i j ⊎ PassedInOrder g s i j
  pub cases : HasLogs i → FormatLeaves s i j

-- What is said of the logs of an image, and of what a crash leaves of them.
use Rattle.std.specs.Prelude.{◌≡◌, ℕ, ◌⊎◌, List, [], ◌∷◌, drop, length, Err, IsOk}
use Rattle.zone_image.specs.Image.{Image, IsCrash}
use Rattle.record_model.specs.Encoding.{payload_of}
use Rattle.record_model.specs.declared.types.Record.TheVariants.{Snapshot}
use Rattle.superblock_core.specs.Superblock.{superblock_bytes}
use Rattle.superblock_core.specs.declared.superblock.Superblock.{Superblock}
use Rattle.log_model.specs.LogScan.{blocks_of}
use Rattle.log_model.specs.LogScan.ScanEnd.{Clean}
use Rattle.log_model.specs.LogSelection.{LogAt, selected_log}
use Rattle.log_model.specs.declared.selection.Refusal.TheVariants.{NoFileSystem}
use Rattle.log_model.specs.AppendLaws.{IsSelectedOn}

-- each crash of the image has a log that counts
abbrev pub HasLogs : Image → Type 0
HasLogs i = (k : Image) → IsCrash i k → IsOk (selected_log k)

-- the same geometry and the same data zones
pub record SameData (i j : Image) : Type 0 where
  pub geometry : j.geometry ≡ i.geometry
  pub zones : drop 3 j.zones ≡ drop 3 i.zones

-- the log that counts is in this zone, and holds this superblock and this snapshot and nothing else
pub record HasNewLog (zone : ℕ) (s : Superblock) (snapshot : List ℕ) (j : Image) : Type 0 where
  pub selected : IsSelectedOn j
      (record {
        zone = zone;
        superblock = s;
        scan = record { payloads = (0, superblock_bytes s) ∷ (blocks_of j.geometry.block (length (superblock_bytes s)), snapshot) ∷ []; end = Clean };
      })
      s.sequence

-- the same log counts on both images
pub record SameLog (i j : Image) : Type 0 where
  pub log : LogAt
  pub before : ℕ
  pub after : ℕ
  pub was : IsSelectedOn i log before
  pub is : IsSelectedOn j log after

-- the data zones and the log that counts are those of a crash of the image
pub record KeepsFileSystem (i j : Image) : Type 0 where
  pub crashed : Image
  pub crash : IsCrash i crashed
  pub data_zones : SameData crashed j
  pub log : SameLog crashed j

-- no log counts, and none is damaged
abbrev pub HasNoFileSystem : Image → Type 0
HasNoFileSystem j = selected_log j ≡ Err NoFileSystem

-- the old file system, none, or the new one: zone 0 has this superblock and an empty snapshot and nothing else
abbrev pub FormatLeaves : Superblock → Image → Image → Type 0
FormatLeaves s i j = KeepsFileSystem i j ⊎ HasNoFileSystem j ⊎ HasNewLog 0 s (payload_of (Snapshot [])) j

-- What the steps of beginning a new log do to the selection, on images.
use Rattle.std.specs.Prelude.{◌≡◌, ◌≢◌, ℕ, ◌<◌, true, List, [], ◌∷◌, ◌++◌, length, take, Ok}
use Rattle.zone_image.specs.Image.{Image, zone_at}
use Rattle.record_model.specs.Decoding.{record_of}
use Rattle.record_model.specs.declared.types.FileEntry.{FileEntry}
use Rattle.record_model.specs.declared.types.Record.TheVariants.{Snapshot}
use Rattle.superblock_core.specs.Superblock.{superblock_of}
use Rattle.superblock_core.specs.declared.superblock.Superblock.{Superblock}
use Rattle.log_model.specs.LogScan.{blocks_of, record_blocks}
use Rattle.log_model.specs.LogScan.ScanEnd.{Clean}
use Rattle.log_model.specs.ScanLaws.{IsRecordOf}
use Rattle.log_model.specs.LogSelection.{LogAt, fits_device}
use Rattle.log_model.specs.AppendLaws.{IsSelectedOn, DiffersIn}

-- a payload that is a superblock for this image, of a sequence above all that are there
pub record IsNextSuperblock (i : Image) (greatest : ℕ) (payload : List ℕ) (s : Superblock) : Type 0 where
  pub fits : IsRecordOf i.geometry.block payload
  pub size : length payload ≡ 512
  pub reads : superblock_of payload ≡ Ok s
  pub device : fits_device i.geometry s ≡ true
  pub above : greatest < s.sequence

-- j is i with these blocks in a metadata zone that was empty
pub record FillsZone (zone : ℕ) (blocks : List (List ℕ)) (i j : Image) : Type 0 where
  pub metadata : zone < 3
  pub was_empty : (zone_at i zone).blocks ≡ []
  pub differs : DiffersIn zone i j
  pub filled : (zone_at j zone).blocks ≡ blocks

-- a metadata zone that isn't the selected log's may be reset
abbrev pub OtherMayBeReset : Type 0
OtherMayBeReset = (i j : Image) (zone : ℕ) (log : LogAt) (greatest : ℕ) → IsSelectedOn i log greatest → zone < 3 → log.zone ≢ zone
    → DiffersIn zone i j → (zone_at j zone).blocks ≡ [] → (left : ℕ) × IsSelectedOn j log left

-- a part of the new superblock changes nothing
abbrev pub PartOfSuperblock : Type 0
PartOfSuperblock = (i j : Image) (zone k : ℕ) (log : LogAt) (greatest : ℕ) (payload : List ℕ) (s : Superblock) → IsSelectedOn i log greatest
    → IsNextSuperblock i greatest payload s → k < blocks_of i.geometry.block (length payload)
    → FillsZone zone (take k (record_blocks i.geometry.block payload)) i j → IsSelectedOn j log greatest

-- the whole of it, with a part of the snapshot or none, leaves the old log selected
abbrev pub PartOfSnapshot : Type 0
PartOfSnapshot = (i j : Image) (zone k : ℕ) (log : LogAt) (greatest : ℕ) (payload snapshot : List ℕ) (s : Superblock) → IsSelectedOn i log greatest
    → IsNextSuperblock i greatest payload s → IsRecordOf i.geometry.block snapshot → k < blocks_of i.geometry.block (length snapshot)
    → FillsZone zone (record_blocks i.geometry.block payload ++ take k (record_blocks i.geometry.block snapshot)) i j → IsSelectedOn j log s.sequence

-- with the whole snapshot the new log is selected
abbrev pub WholeSnapshot : Type 0
WholeSnapshot = (i j : Image) (zone : ℕ) (log : LogAt) (greatest : ℕ) (payload snapshot : List ℕ) (s : Superblock) (files : List FileEntry) → IsSelectedOn i log greatest
    → IsNextSuperblock i greatest payload s → IsRecordOf i.geometry.block snapshot → record_of snapshot ≡ Ok (Snapshot files)
    → FillsZone zone (record_blocks i.geometry.block payload ++ record_blocks i.geometry.block snapshot) i j
    → IsSelectedOn j
    (record { zone = zone; superblock = s; scan = record { payloads = (0, payload) ∷ (blocks_of i.geometry.block (length payload), snapshot) ∷ []; end = Clean } })
    s.sequence

-- Rolls of a log at rest.
use Rattle.std.specs.Prelude.{◌≡◌, ◌⊎◌, ℕ, ◌+◌, List, [], ◌∷◌, length, Ok}
use Rattle.zone_image.specs.declared.Geometry.{Geometry}
use Rattle.zone_image.specs.Image.{Image}
use Rattle.zone_image.specs.Infos.{IsValidImage}
use Rattle.record_model.specs.Decoding.{record_of}
use Rattle.record_model.specs.declared.types.Record.TheVariants.{Snapshot}
use Rattle.superblock_core.specs.Superblock.{superblock_bytes}
use Rattle.log_model.specs.declared.selection.Chosen.{Chosen}
use Rattle.log_model.specs.LogScan.{blocks_of}
use Rattle.log_model.specs.LogScan.ScanEnd.{Clean}
use Rattle.log_model.specs.LogSelection.{LogAt}
use Rattle.log_model.specs.FileTable.{Table}
use Rattle.log_model.specs.TableLaws.{IsTable, AreSized}
use Rattle.log_model.specs.MountedLogLaws.{MountsTable}
use Rattle.crash_cover.specs.Pinned.{IsPinned}
use Rattle.crash_cover.specs.AtRest.{IsAtRest}
use Rattle.crash_cover.specs.Recovery.{RecoversTable}
use Rattle.log_roll.specs.FormatLeaves.{HasNewLog}
use Rattle.log_roll.specs.RollLeaves.{LeftByRoll}
use Rattle.log_roll.specs.Rolling.{next_superblock, next_zone, rolled_image}

-- a payload with the snapshot of a table
pub record IsSnapshotOf (payload : List ℕ) (es : Table) : Type 0 where
  pub reads : record_of payload ≡ Ok (Snapshot es)
  pub table : IsTable es
  pub sized : AreSized es

-- the log that a roll makes: the next superblock, and the snapshot behind it
abbrev pub new_log : Geometry → Chosen → List ℕ → LogAt
new_log g old snapshot = record {
  zone = next_zone old.zone;
  superblock = next_superblock old;
  scan = record {
    payloads = (0, superblock_bytes (next_superblock old)) ∷ (blocks_of g.block (length (superblock_bytes (next_superblock old))), snapshot) ∷ [];
    end = Clean;
  };
}

-- the image that a roll makes, whose log is that one
pub record IsRolled (old : Chosen) (snapshot : List ℕ) (blocks : List (List ℕ)) (i j : Image) : Type 0 where
  pub image : j ≡ rolled_image i (next_zone old.zone) blocks
  pub log : HasNewLog (next_zone old.zone) (next_superblock old) snapshot j

-- after a roll the image is at rest with the new log and the table of its snapshot
abbrev pub RollIsAtRest : Type 0
RollIsAtRest = (i j : Image) (log : LogAt) (greatest : ℕ) (old : Chosen) (snapshot : List ℕ) (blocks : List (List ℕ)) (es next : Table) → IsAtRest i log greatest es
    → IsSnapshotOf snapshot next → IsPinned i next → IsRolled old snapshot blocks i j → IsValidImage j
    → IsAtRest j (new_log j.geometry old snapshot) (old.greatest + 1) next

-- a crash within a roll leaves what a crash may leave of the table before it, or of the table of the snapshot
abbrev pub RollMomentRecovers : Type 0
RollMomentRecovers = (i j : Image) (log : LogAt) (greatest : ℕ) (old : Chosen) (snapshot : List ℕ) (es next : Table) → IsAtRest i log greatest es
    → IsSnapshotOf snapshot next → IsPinned i next → LeftByRoll old snapshot i j → RecoversTable i es j ⊎ RecoversTable i next j

-- it mounts the one or the other
abbrev pub RollMomentMounts : Type 0
RollMomentMounts = (i j : Image) (log : LogAt) (greatest : ℕ) (old : Chosen) (snapshot : List ℕ) (es next : Table) → IsAtRest i log greatest es
    → IsSnapshotOf snapshot next → IsPinned i next → LeftByRoll old snapshot i j → MountsTable j es ⊎ MountsTable j next

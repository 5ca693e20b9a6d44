-- Steps from one image at rest to the next.
use Rattle.std.specs.Prelude.{◌≡◌, ℕ, ◌<◌, ◌≤◌, Bool, List, ◌==◌}
use Rattle.zone_image.specs.Image.{Image, zone_at}
use Rattle.zone_image.specs.Changes.{appended, finished, emptied, synced}
use Rattle.zone_image.specs.Infos.{IsValidImage}
use Rattle.zone_image.specs.Moments.{PassedByFinish, PassedByReset}
use Rattle.record_model.specs.declared.types.Record.{Record}
use Rattle.log_model.specs.LogScan.{record_blocks}
use Rattle.log_model.specs.LogSelection.{LogAt}
use Rattle.log_model.specs.FileTable.{Table}
use Rattle.log_model.specs.CrashLaws.{IsDurable}
use Rattle.log_model.specs.MountedLogLaws.{MountsTable}
use Rattle.crash_cover.specs.SameData.{HaveSameData, Avoids}
use Rattle.crash_cover.specs.Pinned.{IsPinned}
use Rattle.crash_cover.specs.AtRest.{IsAtRest, AddsRecord, with_record}

-- the metadata zones have the same blocks, and all of them are durable
pub record KeepsLog (i j : Image) : Type 0 where
  pub geometry : j.geometry ≡ i.geometry
  pub blocks : (m : ℕ) → m < 3 → (zone_at j m).blocks ≡ (zone_at i m).blocks
  pub durable : (m : ℕ) → m < 3 → IsDurable j m

-- an image at rest is at rest still where its log is kept, and its table reads the same
abbrev pub RestIsKept : Type 0
RestIsKept = (changed : ℕ → Bool) (i j : Image) (log : LogAt) (greatest : ℕ) (es : Table) → IsAtRest i log greatest es → IsValidImage j
    → KeepsLog i j → HaveSameData changed i j → Avoids changed i.geometry es → IsAtRest j log greatest es

-- a sync
abbrev pub SyncKeepsRest : Type 0
SyncKeepsRest = (i : Image) (log : LogAt) (greatest : ℕ) (es : Table) → IsAtRest i log greatest es → IsAtRest (synced i) log greatest es

-- a finish of any zone
abbrev pub FinishKeepsRest : Type 0
FinishKeepsRest = (i : Image) (zone : ℕ) (log : LogAt) (greatest : ℕ) (es : Table) → IsAtRest i log greatest es → IsValidImage (finished i zone)
    → IsAtRest (finished i zone) log greatest es

-- a reset of a data zone in which the table has nothing
abbrev pub ResetKeepsRest : Type 0
ResetKeepsRest = (i : Image) (zone : ℕ) (log : LogAt) (greatest : ℕ) (es : Table) → IsAtRest i log greatest es → IsValidImage (emptied i zone)
    → 3 ≤ zone → Avoids (λ n. n == zone) i.geometry es → IsAtRest (emptied i zone) log greatest es

-- a record that is appended to the log and synced
abbrev pub RecordIsAtRest : Type 0
RecordIsAtRest = (i : Image) (log : LogAt) (greatest : ℕ) (payload : List ℕ) (r : Record) (es next : Table) → IsAtRest i log greatest es
    → AddsRecord i log payload r es next → IsPinned i next → IsValidImage (appended i log.zone (record_blocks i.geometry.block payload))
    → IsAtRest (synced (appended i log.zone (record_blocks i.geometry.block payload))) (with_record i log payload) greatest next

-- a crash within a finish
abbrev pub FinishMomentMounts : Type 0
FinishMomentMounts = (i j : Image) (zone : ℕ) (log : LogAt) (greatest : ℕ) (es : Table) → IsAtRest i log greatest es → IsValidImage (finished i zone)
    → PassedByFinish i zone j → MountsTable j es

-- a crash within the reset of a data zone in which the table has nothing
abbrev pub ResetMomentMounts : Type 0
ResetMomentMounts = (i j : Image) (zone : ℕ) (log : LogAt) (greatest : ℕ) (es : Table) → IsAtRest i log greatest es → IsValidImage (emptied i zone)
    → 3 ≤ zone → Avoids (λ n. n == zone) i.geometry es → PassedByReset i zone j → MountsTable j es

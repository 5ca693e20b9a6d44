-- Images at rest: the log is durable, and so is all that its table has.
use Rattle.std.specs.Prelude.{◌≡◌, ◌⊎◌, ℕ, ◌<◌, false, List, [], ◌∷◌, ◌++◌, length, Ok}
use Rattle.zone_image.specs.Image.{Image, IsCrash, zone_at}
use Rattle.zone_image.specs.Infos.{IsValidImage}
use Rattle.zone_image.specs.Moments.{PassedByAppend}
use Rattle.record_model.specs.Decoding.{record_of}
use Rattle.record_model.specs.declared.types.Record.{Record}
use Rattle.log_model.specs.LogScan.{record_blocks, has_end}
use Rattle.log_model.specs.LogScan.ScanEnd.{Clean}
use Rattle.log_model.specs.ScanLaws.{IsRecordOf}
use Rattle.log_model.specs.LogSelection.{LogAt}
use Rattle.log_model.specs.FileTable.{Table, after_record}
use Rattle.log_model.specs.CrashLaws.{IsDurable}
use Rattle.log_model.specs.MountedLogLaws.{HasTable, MountsTable}
use Rattle.crash_cover.specs.Pinned.{IsPinned}

-- the image's log has this table; the metadata zones are durable, and so are the table's extents and recovery points
pub record IsAtRest (i : Image) (log : LogAt) (greatest : ℕ) (es : Table) : Type 0 where
  pub valid : IsValidImage i
  pub table : HasTable i log greatest es
  pub metadata : (m : ℕ) → m < 3 → IsDurable i m
  pub pinned : IsPinned i es

-- an image at rest mounts its table
abbrev pub RestMounts : Type 0
RestMounts = (i : Image) (log : LogAt) (greatest : ℕ) (es : Table) → IsAtRest i log greatest es → MountsTable i es

-- what a crash leaves of it mounts the same table of the same log
abbrev pub CrashAtRestMounts : Type 0
CrashAtRestMounts = (i j : Image) (log : LogAt) (greatest : ℕ) (es : Table) → IsAtRest i log greatest es → IsCrash i j
    → HasTable j log greatest es × MountsTable j es

-- what stands once a record is added to the log of an image
pub record AddsRecord (i : Image) (log : LogAt) (payload : List ℕ) (r : Record) (es next : Table) : Type 0 where
  pub clean : log.scan.end ≡ Clean
  pub goes_on : has_end log.scan.payloads ≡ false
  pub fits : IsRecordOf i.geometry.block payload
  pub reads : record_of payload ≡ Ok r
  pub after : after_record r es ≡ Ok next

-- a crash within the append of a record to the log of an image at rest mounts the table before it or the one after it
abbrev pub RecordMomentMounts : Type 0
RecordMomentMounts = (i j : Image) (log : LogAt) (greatest : ℕ) (payload : List ℕ) (r : Record) (es next : Table) → IsAtRest i log greatest es
    → AddsRecord i log payload r es next → IsPinned i next → PassedByAppend i log.zone (record_blocks i.geometry.block payload) j
    → MountsTable j es ⊎ MountsTable j next

-- the log with one payload more
abbrev pub with_record : Image → LogAt → List ℕ → LogAt
with_record i log payload =
    record log { scan = record { payloads = log.scan.payloads ++ (length (zone_at i log.zone).blocks, payload) ∷ []; end = Clean } }

-- What a crash leaves of the zones that logs and tables are read from.
use Rattle.std.specs.Prelude.{◌≡◌, ◌≢◌, ℕ, ◌<◌, ◌≤◌, ◌⊎◌, false, List, ◌++◌, length, take, None, Ok}
use Rattle.zone_image.specs.Image.{Image, IsCrash, zone_at}
use Rattle.zone_image.specs.Changes.{appended}
use Rattle.zone_image.specs.Moments.{PassedByAppend}
use Rattle.record_model.specs.Decoding.{record_of}
use Rattle.record_model.specs.declared.types.Record.{Record}
use Rattle.record_model.specs.declared.types.Record.TheVariants.{Snapshot}
use Rattle.superblock_core.specs.declared.superblock.Superblock.{Superblock}
use Rattle.log_model.specs.LogScan.{record_blocks, has_end}
use Rattle.log_model.specs.LogScan.ScanEnd.{Clean}
use Rattle.log_model.specs.ScanLaws.{IsRecordOf}
use Rattle.log_model.specs.LogSelection.{LogAt}
use Rattle.log_model.specs.FileTable.{Table, after_record}
use Rattle.log_model.specs.Mounted.{broken_rule}
use Rattle.log_model.specs.MountedLogLaws.{HasTable, MountsTable}
use Rattle.log_model.specs.NewLogLaws.{IsNextSuperblock, FillsZone}
use Rattle.log_model.specs.MountLaws.{KeepsFronts}
use Rattle.log_model.specs.AppendLaws.{AppendsTo}

-- all blocks of the zone are durable
abbrev pub IsDurable : Image → ℕ → Type 0
IsDurable i zone = length (zone_at i zone).blocks ≤ (zone_at i zone).kept

-- a crash keeps the first blocks of each zone
abbrev pub CrashKeepsFronts : Type 0
CrashKeepsFronts = (i j : Image) → IsCrash i j → KeepsFronts i j

-- a durable zone keeps all of them
abbrev pub DurableZoneStays : Type 0
DurableZoneStays = (i j : Image) (zone : ℕ) → IsCrash i j → IsDurable i zone → (zone_at j zone).blocks ≡ (zone_at i zone).blocks

-- after an append to a durable metadata zone a crash leaves the zone with the first blocks of the append, and the other metadata zones as they were
abbrev pub AppendCrashLeavesPart : Type 0
AppendCrashLeavesPart = (i j : Image) (zone : ℕ) (more : List (List ℕ)) → zone < length i.zones → ((m : ℕ) → m < 3 → IsDurable i m) → zone < 3
    → IsCrash (appended i zone more) j → (k : ℕ) × (k ≤ length more) × AppendsTo zone (take k more) i j

-- a crash within the append of a record to the log leaves the table before it or the one after it, where these break no rule there
abbrev pub RecordCrashMounts : Type 0
RecordCrashMounts = (i j : Image) (log : LogAt) (greatest : ℕ) (payload : List ℕ) (r : Record) (es next : Table) → HasTable i log greatest es
    → log.scan.end ≡ Clean → has_end log.scan.payloads ≡ false → IsRecordOf i.geometry.block payload → record_of payload ≡ Ok r → after_record r es ≡ Ok next
    → ((m : ℕ) → m < 3 → IsDurable i m) → 3 ≤ length i.zones → PassedByAppend i log.zone (record_blocks i.geometry.block payload) j
    → (broken_rule j es ≡ None → MountsTable j es) ⊎ (broken_rule j next ≡ None → MountsTable j next)

-- a crash of an image with a filled zone, whose other metadata zones are durable, leaves the zone with the first of its blocks
abbrev pub FilledCrashLeavesPart : Type 0
FilledCrashLeavesPart = (i filled j : Image) (zone : ℕ) (blocks : List (List ℕ)) → FillsZone zone blocks i filled
    → ((m : ℕ) → m < 3 → m ≢ zone → IsDurable filled m) → IsCrash filled j → (k : ℕ) × FillsZone zone (take k blocks) i j

-- a crash while a new log with the snapshot of the old one's table is written leaves that table, where it breaks no rule there
abbrev pub NewLogCrashMounts : Type 0
NewLogCrashMounts = (i filled j : Image) (zone k : ℕ) (log : LogAt) (greatest : ℕ) (payload snapshot : List ℕ) (s : Superblock) (es : Table) → HasTable i log greatest es
    → IsNextSuperblock i greatest payload s → IsRecordOf i.geometry.block snapshot → record_of snapshot ≡ Ok (Snapshot es)
    → FillsZone zone (take k (record_blocks i.geometry.block payload ++ record_blocks i.geometry.block snapshot)) i filled
    → ((m : ℕ) → m < 3 → m ≢ zone → IsDurable filled m) → IsCrash filled j → broken_rule j es ≡ None → MountsTable j es

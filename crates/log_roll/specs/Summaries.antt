-- What the choice of a log asks of each metadata zone.
use Rattle.std.specs.Prelude.{ℕ, ◌<◌, ◌≤◌, ⊤, Bool, true, false, not, ◌&&◌, ◌||◌, List, length, Option, Some, None, Result, Ok, Err, ◌==◌, if◌then◌else◌}
use Rattle.std.specs.Option.{option_map}
use Rattle.std.specs.Str.{bytes_eq}
use Rattle.zone_image.specs.declared.Geometry.{Geometry}
use Rattle.record_model.specs.Numbers.{u32}
use Rattle.record_model.specs.Decoding.{record_of}
use Rattle.superblock_core.specs.Superblock.{u32_at, superblock_of}
use Rattle.superblock_core.specs.declared.superblock.Superblock.{Superblock}
use Rattle.superblock_core.specs.declared.superblock.SbError.{SbError}
use Rattle.superblock_core.specs.declared.superblock.SbError.TheVariants.{Magic, Version, Flags, Text}
use Rattle.log_model.specs.LogScan.{Scan, has_end, is_clean}
use Rattle.log_model.specs.LogSelection.{LogAt, damaged, fits_device, has_snapshot, is_snapshot, log_of_zone}
use Rattle.log_model.specs.declared.selection.Refusal.{Refusal}
use Rattle.log_model.specs.declared.selection.Refusal.TheVariants.{Unsupported, Differs}
use Rattle.log_model.specs.declared.selection.DamageWhy.TheVariants as why
use Rattle.log_roll.specs.declared.next.LogEnd.{LogEnd}
use Rattle.log_roll.specs.declared.next.LogEnd.TheVariants as log_end
use Rattle.log_roll.specs.declared.summary.LogSummary.{LogSummary}
use Rattle.log_roll.specs.declared.summary.LogRest.{LogRest}
use Rattle.log_roll.specs.declared.summary.LogTail.{LogTail}

-- flags that are known
abbrev pub HasKnownFlags : Superblock → Type 0
HasKnownFlags s = s.flags ≤ 1

-- the log is of a metadata zone, and its flags are known
pub record IsSound (log : LogSummary) : Type 0 where
  pub zone : log.zone < 3
  pub flags : log.superblock.flags ≤ 1

-- there is no log, or it is sound
abbrev pub IsSoundLog : Option LogSummary → Type 0
IsSoundLog None = ⊤
IsSoundLog (Some log) = IsSound log

-- what the choice asks of a log
abbrev pub summary_of : LogAt → LogSummary
summary_of log = record {
  zone = log.zone;
  superblock = log.superblock;
  snapshot = has_snapshot log;
  can_end = is_clean log.scan.end && not (has_end log.scan.payloads);
}

-- the same of a zone that may have no log, or one that is refused
abbrev pub summarised : Result (Option LogAt) Refusal → Result (Option LogSummary) Refusal
summarised (Ok log) = Ok (option_map summary_of log)
summarised (Err refusal) = Err refusal

-- what the choice asks of a zone
abbrev pub zone_summary : Geometry → ℕ → Scan → Result (Option LogSummary) Refusal
zone_summary g zone c = summarised (log_of_zone g zone c c.payloads c.end)

-- a version or flags that aren't known
abbrev pub unsupported : ℕ → List ℕ → Refusal
unsupported zone payload = Unsupported zone (u32_at 45 payload) (u32_at 49 payload)

-- a superblock, if it states this device
abbrev pub fitting : Geometry → ℕ → Superblock → Result (Option Superblock) Refusal
fitting g zone s = if fits_device g s then Ok (Some s) else Err (Differs zone s.block s.zone_blocks s.zones)

-- the superblock of a first payload of 512 bytes
abbrev pub superblock_with : Geometry → ℕ → List ℕ → Result Superblock SbError → Result (Option Superblock) Refusal
superblock_with g zone payload (Ok s) = fitting g zone s
superblock_with g zone payload (Err Magic) = Ok None
superblock_with g zone payload (Err (Version found)) = Err (unsupported zone payload)
superblock_with g zone payload (Err (Flags found)) = Err (unsupported zone payload)
superblock_with g zone payload (Err (Text at)) = damaged zone 0 (why.Text at)

-- the superblock of a first payload, or none
abbrev pub superblock_in : Geometry → ℕ → List ℕ → Result (Option Superblock) Refusal
superblock_in g zone payload = if length payload == 512 then superblock_with g zone payload (superblock_of payload) else Ok None

-- what a zone without a record is
abbrev pub without_log : ℕ → LogEnd → Result (Option LogSummary) Refusal
without_log zone log_end.Clean = Ok None
without_log zone log_end.Torn = Ok None
without_log zone (log_end.Bad block cause) = damaged zone block cause

-- the end of a log that is clean
abbrev pub is_clean_end : LogEnd → Bool
is_clean_end log_end.Clean = true
is_clean_end log_end.Torn = false
is_clean_end (log_end.Bad block cause) = false

-- an end record, or one before it
abbrev pub end_seen : Bool → List ℕ → Bool
end_seen before payload = before || bytes_eq payload (u32 4)

-- whether a log has its snapshot, by its end and what its second payload is
abbrev pub unless_bad : ℕ → LogEnd → Result Bool Refusal → Result Bool Refusal
unless_bad zone log_end.Clean there = there
unless_bad zone log_end.Torn there = there
unless_bad zone (log_end.Bad block cause) there = damaged zone block cause

-- what stands behind a superblock: nothing but this end
abbrev pub only_end : ℕ → LogEnd → LogRest
only_end zone end = record { snapshot = unless_bad zone end (Ok false); can_end = is_clean_end end }

-- a second payload, and what stands behind it
abbrev pub rest_with : ℕ → ℕ → List ℕ → LogTail → LogRest
rest_with zone block payload tail = record {
  snapshot = unless_bad zone tail.end (is_snapshot zone block (record_of payload));
  can_end = is_clean_end tail.end && not (end_seen tail.has_end payload);
}

-- the log of a superblock and what stands behind it
abbrev pub log_of : ℕ → Superblock → LogRest → LogSummary
log_of zone s rest = record { zone = zone; superblock = s; snapshot = rest.snapshot; can_end = rest.can_end }

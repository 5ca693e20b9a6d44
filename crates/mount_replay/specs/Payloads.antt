-- The payloads of a log, one by one.
use Rattle.std.specs.Prelude.{◌≡◌, ⊤, ◌^◌, ◌<◌, [], length, Option, Some, None}
use Rattle.log_model.specs.LogScan.{Scan, with_payload}
use Rattle.mount_replay.specs.declared.log.LogRecord.{LogRecord}
use Rattle.mount_replay.specs.declared.error.ReplayError.{ReplayError}
use Rattle.mount_replay.specs.declared.error.ReplayError.TheVariants.{Damaged}

-- the payload of the first record of a scan, and the rest of the scan
abbrev pub Takes : Scan → Option LogRecord → Scan → Type 0
Takes whole None rest = whole.payloads ≡ []
Takes whole (Some r) rest = whole ≡ with_payload r.block r.payload rest

-- a payload is shorter than 2 ^ 32 bytes
abbrev pub IsShortRecord : LogRecord → Type 0
IsShortRecord r = length r.payload < 2 ^ 32

-- a fault of the device or want of memory
abbrev pub IsNoDamage : ReplayError → Type 0
IsNoDamage (Damaged d) = ⊥
IsNoDamage _ = ⊤

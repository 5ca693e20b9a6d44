-- The records of a scan one by one.
use Rattle.std.specs.Prelude.{◌≡◌, ◌^◌, ◌<◌, ⊤, [], length}
use Rattle.log_model.specs.LogScan.{Scan, ScanEnd, with_payload}
use Rattle.log_model.specs.LogScan.ScanEnd.{Clean, Torn, Bad}
use Rattle.log_model.specs.LogSelection.{bad_record}
use Rattle.log_roll.specs.declared.next.LogEnd.{LogEnd}
use Rattle.log_roll.specs.declared.next.LogEnd.TheVariants as log_end
use Rattle.log_roll.specs.declared.next.NextRecord.{NextRecord}
use Rattle.log_roll.specs.declared.next.NextRecord.TheVariants as next_record

-- the end of a scan, with what is wrong there
abbrev pub log_end_of : ScanEnd → LogEnd
log_end_of Clean = log_end.Clean
log_end_of (Torn block) = log_end.Torn
log_end_of (Bad block len stored computed) = log_end.Bad block (bad_record len stored computed)

-- a scan begins with this record and goes on so, or it has no record and this end
abbrev pub Begins : Scan → NextRecord → Scan → Type 0
Begins whole (next_record.Payload block bytes) rest = whole ≡ with_payload block bytes rest
Begins whole (next_record.End end) rest = (whole.payloads ≡ []) × (log_end_of whole.end ≡ end)

-- a payload is shorter than 2 ^ 32 bytes
abbrev pub IsShort : NextRecord → Type 0
IsShort (next_record.Payload block bytes) = length bytes < 2 ^ 32
IsShort (next_record.End end) = ⊤

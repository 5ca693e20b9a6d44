-- What holds of every scan.
use Rattle.std.specs.Prelude.{◌≡◌, ℕ, ◌+◌, ◌^◌, ◌<◌, ◌≤◌, Bool, true, false, List, [], ◌∷◌, ◌++◌, length, take}
use mathlib.Core.List.{IsPrefix}
use mathlib.Core.Logic.{◌⊎◌}
use Rattle.log_model.specs.LogScan.{Scan, ScanEnd, blocks_of, record_blocks, scan, scan_from, scan_within, with_payload}
use Rattle.log_model.specs.LogScan.ScanEnd.{Clean, Torn, Bad}

-- a log that ends with a record that doesn't match its checksum, or states no length
abbrev pub is_bad : ScanEnd → Bool
is_bad (Bad block len stored computed) = true
is_bad _ = false

-- the scan of the first blocks of a zone, beside that of all its blocks
pub record IsScanFront (front whole : Scan) : Type 0 where
  pub payloads : IsPrefix front.payloads whole.payloads
  pub end : (front ≡ whole) ⊎ (is_bad front.end ≡ false)

-- the payloads of a scan, and then another scan
abbrev pub followed_by : Scan → Scan → Scan
followed_by front rest = record { payloads = front.payloads ++ rest.payloads; end = rest.end }

-- a payload that a record can have, in blocks that hold its head
abbrev pub IsRecordOf : ℕ → List ℕ → Type 0
IsRecordOf block payload = (8 ≤ block) × (0 < length payload) × (length payload < 2 ^ 32)

-- a bound of at least the number of blocks changes nothing
abbrev pub BoundIsFree : Type 0
BoundIsFree = (bound block at : ℕ) (blocks : List (List ℕ)) → 0 < block → length blocks ≤ bound
    → scan_within bound block at blocks ≡ scan_from block at blocks

-- the first blocks of a zone have the first of its payloads, and no damage that the zone doesn't have
abbrev pub FrontScansToFront : Type 0
FrontScansToFront = (block : ℕ) (front rest : List (List ℕ)) → 0 < block → IsScanFront (scan block front) (scan block (front ++ rest))

-- behind blocks that scan clean the scan goes on
abbrev pub CleanScanGoesOn : Type 0
CleanScanGoesOn = (block : ℕ) (front rest : List (List ℕ)) → 0 < block → (scan block front).end ≡ Clean
    → scan block (front ++ rest) ≡ followed_by (scan block front) (scan_from block (length front) rest)

-- the blocks of a record scan to its payload, and the scan goes on behind them
abbrev pub RecordIsFound : Type 0
RecordIsFound = (block at : ℕ) (payload : List ℕ) (rest : List (List ℕ)) → IsRecordOf block payload
    → scan_from block at (record_blocks block payload ++ rest)
    ≡ with_payload at payload (scan_from block (at + blocks_of block (length payload)) rest)

-- a record behind a clean log is one payload more
abbrev pub AppendAddsPayload : Type 0
AppendAddsPayload = (block : ℕ) (blocks : List (List ℕ)) (payload : List ℕ) → IsRecordOf block payload → (scan block blocks).end ≡ Clean
    → scan block (blocks ++ record_blocks block payload) ≡ record { payloads = (scan block blocks).payloads ++ (length blocks, payload) ∷ []; end = Clean }

-- a part of a record behind a clean log is torn
abbrev pub PartIsTorn : Type 0
PartIsTorn = (block k : ℕ) (blocks : List (List ℕ)) (payload : List ℕ) → IsRecordOf block payload → (scan block blocks).end ≡ Clean
    → 0 < k → k < blocks_of block (length payload)
    → scan block (blocks ++ take k (record_blocks block payload)) ≡ record { payloads = (scan block blocks).payloads; end = Torn (length blocks) }

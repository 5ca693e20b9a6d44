-- What an append to the log's own zone does to the selection, on images.
use Rattle.std.specs.Prelude.{◌≡◌, ◌≢◌, ℕ, ◌<◌, false, List, [], ◌∷◌, ◌++◌, length, take, slice_index_or, Ok}
use mathlib.Core.List.{IsPrefix}
use Rattle.zone_image.specs.declared.Geometry.{Geometry}
use Rattle.zone_image.specs.Image.{Image, zone_at}
use Rattle.log_model.specs.LogScan.{Scan, blocks_of, record_blocks, scan}
use Rattle.log_model.specs.LogScan.ScanEnd.{Clean, Torn}
use Rattle.log_model.specs.ScanLaws.{is_bad, IsRecordOf}
use Rattle.log_model.specs.LogSelection.{LogAt, select_log, scans_of}
use Rattle.log_model.specs.LogChangeLaws.{no_records}

-- the scan of a zone of an image
abbrev pub scan_at : Image → ℕ → Scan
scan_at i zone = scan i.geometry.block (zone_at i zone).blocks

-- the log that is selected on an image, with the highest sequence
abbrev pub IsSelectedOn : Image → LogAt → ℕ → Type 0
IsSelectedOn i log greatest = select_log i.geometry (scans_of i) ≡ Ok (log, greatest)

-- another image, with other blocks in one metadata zone at most
pub record DiffersIn (zone : ℕ) (i j : Image) : Type 0 where
  pub geometry : j.geometry ≡ i.geometry
  pub others : (m : ℕ) → m < 3 → m ≢ zone → (zone_at j m).blocks ≡ (zone_at i m).blocks

-- a zone with more blocks behind
pub record AppendsTo (zone : ℕ) (more : List (List ℕ)) (i j : Image) : Type 0 where
  pub differs : DiffersIn zone i j
  pub behind : (zone_at j zone).blocks ≡ (zone_at i zone).blocks ++ more

-- the selected log is that of one of the zones, and its scan is the zone's
abbrev pub SelectedIsOfItsZone : Type 0
SelectedIsOfItsZone = (g : Geometry) (scans : List Scan) (log : LogAt) (greatest : ℕ) → select_log g scans ≡ Ok (log, greatest)
    → (log.zone < length scans) × (log.scan ≡ slice_index_or scans log.zone no_records)

-- the selected log may get more payloads in its zone, and end torn there
abbrev pub SelectedGrowsInItsZone : Type 0
SelectedGrowsInItsZone = (i j : Image) (log : LogAt) (greatest : ℕ) → IsSelectedOn i log greatest → DiffersIn log.zone i j
    → IsPrefix log.scan.payloads (scan_at j log.zone).payloads → is_bad (scan_at j log.zone).end ≡ false
    → IsSelectedOn j (record log { scan = scan_at j log.zone }) greatest

-- a record behind a clean log: the log is selected with one payload more
abbrev pub RecordBehindSelected : Type 0
RecordBehindSelected = (i j : Image) (log : LogAt) (greatest : ℕ) (payload : List ℕ) → IsSelectedOn i log greatest → log.scan.end ≡ Clean
    → IsRecordOf i.geometry.block payload → AppendsTo log.zone (record_blocks i.geometry.block payload) i j
    → IsSelectedOn j (record log { scan = record { payloads = log.scan.payloads ++ (length (zone_at i log.zone).blocks, payload) ∷ []; end = Clean } }) greatest

-- a part of it: the log is selected with its payloads, and ends torn
abbrev pub PartBehindSelected : Type 0
PartBehindSelected = (i j : Image) (log : LogAt) (greatest k : ℕ) (payload : List ℕ) → IsSelectedOn i log greatest → log.scan.end ≡ Clean
    → IsRecordOf i.geometry.block payload → 0 < k → k < blocks_of i.geometry.block (length payload)
    → AppendsTo log.zone (take k (record_blocks i.geometry.block payload)) i j
    → IsSelectedOn j (record log { scan = record { payloads = log.scan.payloads; end = Torn (length (zone_at i log.zone).blocks) } }) greatest

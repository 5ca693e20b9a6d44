-- What the selection of a log makes of a change in one metadata zone.
use Rattle.std.specs.Prelude.{◌≡◌, ◌≢◌, ℕ, ◌<◌, true, false, List, [], ◌∷◌, ◌++◌, length, Some, Ok}
use mathlib.Core.List.{IsPrefix}
use Rattle.zone_image.specs.declared.Geometry.{Geometry}
use Rattle.log_model.specs.LogScan.{Scan}
use Rattle.log_model.specs.LogScan.ScanEnd.{Clean}
use Rattle.log_model.specs.ScanLaws.{is_bad}
use Rattle.log_model.specs.LogSelection.{LogAt, log_of_zone, has_snapshot, counts, select_log}

-- the scan of an empty zone
abbrev pub no_records : Scan
no_records = record { payloads = []; end = Clean }

-- of these scans this log is selected
abbrev pub Selects : Geometry → List Scan → LogAt → Type 0
Selects g scans log = (greatest : ℕ) × (select_log g scans ≡ Ok (log, greatest))

-- the log with which the zone of this number begins
abbrev pub BeginsLog : Geometry → ℕ → Scan → LogAt → Type 0
BeginsLog g zone c log = log_of_zone g zone c c.payloads c.end ≡ Ok (Some log)

-- a zone whose first record is torn counts as an empty one
abbrev pub TornZoneIsAsEmpty : Type 0
TornZoneIsAsEmpty = (g : Geometry) (before after : List Scan) (c : Scan) → c.payloads ≡ [] → is_bad c.end ≡ false
    → select_log g (before ++ c ∷ after) ≡ select_log g (before ++ no_records ∷ after)

-- a zone other than the selected log's may be emptied
abbrev pub OtherZoneMayBeEmptied : Type 0
OtherZoneMayBeEmptied = (g : Geometry) (before after : List Scan) (c : Scan) (log : LogAt)
    → Selects g (before ++ c ∷ after) log → log.zone ≢ length before → Selects g (before ++ no_records ∷ after) log

-- a log of a new highest sequence is passed over as long as it has no snapshot
abbrev pub BegunLogIsPassedOver : Type 0
BegunLogIsPassedOver = (g : Geometry) (before after : List Scan) (begun : Scan) (log new : LogAt) (greatest : ℕ)
    → select_log g (before ++ no_records ∷ after) ≡ Ok (log, greatest) → BeginsLog g (length before) begun new
    → greatest < new.superblock.sequence → counts new ≡ false
    → select_log g (before ++ begun ∷ after) ≡ Ok (log, new.superblock.sequence)

-- once it has one, it is selected
abbrev pub CompleteLogIsSelected : Type 0
CompleteLogIsSelected = (g : Geometry) (before after : List Scan) (complete : Scan) (log new : LogAt) (greatest : ℕ)
    → select_log g (before ++ no_records ∷ after) ≡ Ok (log, greatest) → BeginsLog g (length before) complete new
    → greatest < new.superblock.sequence → has_snapshot new ≡ Ok true
    → select_log g (before ++ complete ∷ after) ≡ Ok (new, new.superblock.sequence)

-- the selected log may get more payloads, and it may end torn: it stays selected
abbrev pub SelectedLogMayGrow : Type 0
SelectedLogMayGrow = (g : Geometry) (before after : List Scan) (c grown : Scan) (log : LogAt) (greatest : ℕ)
    → select_log g (before ++ c ∷ after) ≡ Ok (log, greatest) → log.zone ≡ length before
    → IsPrefix c.payloads grown.payloads → is_bad grown.end ≡ false
    → select_log g (before ++ grown ∷ after) ≡ Ok (record log { scan = grown }, greatest)

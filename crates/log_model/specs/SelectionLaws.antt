-- What holds of the selection of a log, on lists of logs.
use Rattle.std.specs.Prelude.{◌≡◌, ◌≢◌, ℕ, ◌+◌, ◌<◌, true, false, List, [], ◌∷◌, ◌++◌, Ok, None}
use Rattle.zone_image.specs.declared.Geometry.{Geometry}
use Rattle.log_model.specs.LogScan.{Scan}
use Rattle.log_model.specs.ScanLaws.{is_bad}
use Rattle.log_model.specs.LogSelection.{LogAt, logs_from, twin, has_snapshot, counts, current_log, greatest_sequence}

-- a zone that is empty, or whose first record is torn, has no log
abbrev pub SkippedZoneHasNoLog : Type 0
SkippedZoneHasNoLog = (g : Geometry) (zone : ℕ) (c : Scan) (cs : List Scan) → c.payloads ≡ [] → is_bad c.end ≡ false
    → logs_from g zone (c ∷ cs) ≡ logs_from g (zone + 1) cs

-- a log that is passed over may go
abbrev pub PassedOverMayGo : Type 0
PassedOverMayGo = (before after : List LogAt) (log : LogAt) → counts log ≡ false
    → current_log (before ++ log ∷ after) ≡ current_log (before ++ after)

-- a log with a snapshot and the highest sequence is selected
abbrev pub NewestIsSelected : Type 0
NewestIsSelected = (before after : List LogAt) (log : LogAt) → has_snapshot log ≡ Ok true
    → greatest_sequence (before ++ after) < log.superblock.sequence → current_log (before ++ log ∷ after) ≡ Ok log

-- any other log than the selected one may go
abbrev pub OtherMayGo : Type 0
OtherMayGo = (before after : List LogAt) (other log : LogAt) → current_log (before ++ other ∷ after) ≡ Ok log → other ≢ log
    → current_log (before ++ after) ≡ Ok log

-- where no two logs have one sequence, none have once a log has gone
abbrev pub FewerHaveNoTwin : Type 0
FewerHaveNoTwin = (before after : List LogAt) (log : LogAt) → twin [] (before ++ log ∷ after) ≡ None → twin [] (before ++ after) ≡ None

-- a log of a higher sequence than all others has no twin
abbrev pub HigherHasNoTwin : Type 0
HigherHasNoTwin = (before after : List LogAt) (log : LogAt) → twin [] (before ++ after) ≡ None
    → greatest_sequence (before ++ after) < log.superblock.sequence → twin [] (before ++ log ∷ after) ≡ None

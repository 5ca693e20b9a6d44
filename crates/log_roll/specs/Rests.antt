-- What stands behind the first records of a log, as its scan has it.
use Rattle.std.specs.Prelude.{ℕ, Bool, false, not, ◌&&◌, List, [], ◌∷◌, Result, Ok}
use Rattle.log_model.specs.LogScan.{Scan, has_end, is_clean}
use Rattle.log_model.specs.LogSelection.{is_snapshot}
use Rattle.log_model.specs.declared.selection.Refusal.{Refusal}
use Rattle.record_model.specs.Decoding.{record_of}
use Rattle.log_roll.specs.Records.{log_end_of}
use Rattle.log_roll.specs.Summaries.{unless_bad}
use Rattle.log_roll.specs.declared.summary.LogRest.{LogRest}
use Rattle.log_roll.specs.declared.summary.LogTail.{LogTail}

-- whether the first of these payloads is a snapshot; false where there is none
abbrev pub snapshot_first : ℕ → List (ℕ × List ℕ) → Result Bool Refusal
snapshot_first zone [] = Ok false
snapshot_first zone (p ∷ ps) = is_snapshot zone p.0 (record_of p.1)

-- what stands behind a superblock
abbrev pub rest_of : ℕ → Scan → LogRest
rest_of zone s = record {
  snapshot = unless_bad zone (log_end_of s.end) (snapshot_first zone s.payloads);
  can_end = is_clean s.end && not (has_end s.payloads);
}

-- whether an end record is among these payloads, and the end
abbrev pub tail_of : Scan → LogTail
tail_of s = record { has_end = has_end s.payloads; end = log_end_of s.end }

-- The choice among the logs of the three metadata zones.
use Rattle.std.specs.Prelude.{ℕ, ◌<◌, ◌≤◌, max, Bool, false, ◌||◌, Option, Some, None, Result, Ok, Err, nat_lt, ◌==◌, if◌then◌else◌}
use Rattle.log_model.specs.LogSelection.{decides}
use Rattle.log_model.specs.declared.selection.Chosen.{Chosen}
use Rattle.log_model.specs.declared.selection.Refusal.{Refusal}
use Rattle.log_model.specs.declared.selection.Refusal.TheVariants.{NoFileSystem, Damaged}
use Rattle.log_model.specs.declared.selection.DamageWhy.TheVariants as why
use Rattle.log_roll.specs.declared.summary.LogSummary.{LogSummary}

-- a metadata zone, and known flags
pub record IsSoundChoice (chosen : Chosen) : Type 0 where
  pub zone : chosen.zone < 3
  pub flags : chosen.superblock.flags ≤ 1

-- a log's sequence, and 0 where there is none
abbrev pub sequence_of : Option LogSummary → ℕ
sequence_of None = 0
sequence_of (Some log) = log.superblock.sequence

-- two logs are there and have one sequence
abbrev pub are_twins : Option LogSummary → Option LogSummary → Bool
are_twins (Some a) (Some b) = a.superblock.sequence == b.superblock.sequence
are_twins (Some a) None = false
are_twins None other = false

-- the refusal of a log as the twin of an earlier one
abbrev pub twin_refusal : Option LogSummary → Option Refusal
twin_refusal None = None
twin_refusal (Some log) = Some (Damaged (record { zone = log.zone; block = 0; why = why.Twin log.superblock.sequence }))

-- the refusal of the first log that has an earlier one's sequence
abbrev pub twin_among : Option LogSummary → Option LogSummary → Option LogSummary → Option Refusal
twin_among first second third =
    if are_twins first second then twin_refusal second
    else if are_twins first third || are_twins second third then twin_refusal third
    else None

-- the log, unless it is passed over
abbrev pub counted : Option LogSummary → Option LogSummary
counted None = None
counted (Some log) = if decides log.snapshot then Some log else None

-- the log of the higher sequence, where there are two
abbrev pub newer_of : Option LogSummary → Option LogSummary → Option LogSummary
newer_of None other = other
newer_of (Some log) None = Some log
newer_of (Some log) (Some other) = if nat_lt log.superblock.sequence other.superblock.sequence then Some other else Some log

-- the log, unless it is damaged
abbrev pub chosen_with : LogSummary → ℕ → Result Bool Refusal → Result Chosen Refusal
chosen_with log greatest (Err refusal) = Err refusal
chosen_with log greatest (Ok there) = Ok (record { zone = log.zone; superblock = log.superblock; greatest = greatest; can_end = log.can_end })

-- the same, where there is one
abbrev pub chosen_from : ℕ → Option LogSummary → Result Chosen Refusal
chosen_from greatest None = Err NoFileSystem
chosen_from greatest (Some log) = chosen_with log greatest log.snapshot

-- the highest sequence
abbrev pub greatest_of : Option LogSummary → Option LogSummary → Option LogSummary → ℕ
greatest_of first second third = max (sequence_of first) (max (sequence_of second) (sequence_of third))

-- the newest log that isn't passed over
abbrev pub newest_of : Option LogSummary → Option LogSummary → Option LogSummary → Option LogSummary
newest_of first second third = newer_of (counted first) (newer_of (counted second) (counted third))

-- a refusal comes first
abbrev pub unless_refused : Option Refusal → Result Chosen Refusal → Result Chosen Refusal
unless_refused None choice = choice
unless_refused (Some refusal) choice = Err refusal

-- the choice among the logs of the three zones
abbrev pub choice : Option LogSummary → Option LogSummary → Option LogSummary → Result Chosen Refusal
choice first second third = unless_refused (twin_among first second third) (chosen_from (greatest_of first second third) (newest_of first second third))

-- What a roll and a record that is added leave.
use Rattle.std.specs.Prelude.{◌≡◌, ℕ, Bool, true, false, not, ◌&&◌, nat_lt, List, [], ◌∷◌, Result, Ok, refl}
use Rattle.std.proofs.Common.{sym, ◌∙◌, ap, subst}
use Rattle.log_model.specs.Headroom.{superblock_blocks, snapshot_blocks}
use Rattle.log_model.specs.declared.selection.Chosen.{Chosen}
use Rattle.fs_model.specs.declared.error.FsError.{FsError}
use Rattle.fs_model.specs.FsState.{FsState, ZoneDescriptor, descriptor_at, room_in, recorded}
use Rattle.fs_model.specs.Trace.{Trace, continue, preceded_by, done, intermediate_states, each, when, step, ◌>>◌, from_state}
use Rattle.fs_model.specs.LogSteps.{FsAction, NoValue, set_descriptor, after_append, append_blocks, add_record, must_roll, roll, roll_from, reset_if_used, is_used, other_zones, next_log}
use Rattle.change_steps.specs.Recording.{after_roll, after_blocks, after_record, KeepsFiles, RecordGoesBehind, RecordGoesBehindRoll, RollAnswers, RecordAnswers, RollKeepsFiles, RecordKeepsFiles}

-- nothing changed
pub same_files : (s : FsState) → KeepsFiles s s
same_files s = record { geometry = refl; rows = refl; greatest = refl; writers = refl }

-- two changes of zones and of the log
pub both_keep : {s t u : FsState} → KeepsFiles s t → KeepsFiles t u → KeepsFiles s u
both_keep a b = record {
  geometry = b.geometry ∙ a.geometry;
  rows = b.rows ∙ a.rows;
  greatest = b.greatest ∙ a.greatest;
  writers = b.writers ∙ a.writers;
}

-- an action that is never refused, and keeps the files
pub record IsQuiet (m : FsAction NoValue) : Type 0 where
  pub ok : (s : FsState) → (m s).answer ≡ Ok tt
  pub keeps : (s : FsState) → KeepsFiles s (m s).last

-- a trace whose answer is Ok goes on
goes_on : (m n : FsAction NoValue) (s : FsState) → (m s).answer ≡ Ok tt → (m >> n) s ≡ preceded_by (intermediate_states (m s)) (n (m s).last)
goes_on m n s is = ap (λ (a : Result NoValue FsError). continue (m s).passed (m s).last a (λ _. n)) is

-- one such action after another
quiet_then : {m n : FsAction NoValue} → IsQuiet m → IsQuiet n → IsQuiet (m >> n)
quiet_then {m = m} {n = n} a b = record {
  ok = λ s. ap (λ r. r.answer) (goes_on m n s (a.ok s)) ∙ b.ok (m s).last;
  keeps = λ s.
      let P : Trace FsState NoValue → Type 0 = λ r. KeepsFiles s r.last in
      subst P (sym (goes_on m n s (a.ok s))) (both_keep (a.keeps s) (b.keeps (m s).last));
}

-- one that looks at the state
pub quiet_from : {f : FsState → FsAction NoValue} → ((s : FsState) → IsQuiet (f s)) → IsQuiet (from_state f)
quiet_from a = record { ok = λ s. (a s).ok s; keeps = λ s. (a s).keeps s }

-- nothing
pub quiet_nothing : IsQuiet (done tt)
quiet_nothing = record { ok = λ s. refl; keeps = same_files }

-- only where a test says so
pub quiet_when : {m : FsAction NoValue} → (b : Bool) → IsQuiet m → IsQuiet (when b m)
quiet_when true a = a
quiet_when false a = quiet_nothing

-- for each of a list
quiet_each : {f : ℕ → FsAction NoValue} → (zones : List ℕ) → ((zone : ℕ) → IsQuiet (f zone)) → IsQuiet (each f zones)
quiet_each [] a = quiet_nothing
quiet_each (zone ∷ zones) a = quiet_then (a zone) (quiet_each zones a)

-- a change of one zone
pub quiet_zone : (zone : ℕ) (f : ZoneDescriptor → ZoneDescriptor) → IsQuiet (set_descriptor zone f)
quiet_zone zone f = record { ok = λ s. refl; keeps = λ s. record { geometry = refl; rows = refl; greatest = refl; writers = refl } }

-- an append to a zone
quiet_append : (zone blocks : ℕ) → IsQuiet (append_blocks zone blocks)
quiet_append zone blocks = quiet_from (λ s. quiet_zone zone (after_append s.geometry.capacity blocks))

-- another log
quiet_log : (log : Chosen) → IsQuiet (step (λ t. record t { log = log }))
quiet_log log = record { ok = λ s. refl; keeps = λ s. record { geometry = refl; rows = refl; greatest = refl; writers = refl } }

-- a roll
quiet_roll : IsQuiet roll
unfolding roll
quiet_roll = quiet_from {f = roll_from} (λ s.
    quiet_then (quiet_then (quiet_then (quiet_then (quiet_then (quiet_then
    (quiet_each {f = reset_if_used} (other_zones s.log.zone) (λ zone. quiet_from (λ t. quiet_when (is_used (descriptor_at t zone)) (quiet_zone zone _))))
    (quiet_from (λ t. quiet_when (t.log.can_end && nat_lt 0 (room_in t t.log.zone)) (quiet_append t.log.zone 1))))
    (quiet_from (λ t. quiet_when (not (descriptor_at t s.log.zone).info.sealed) (quiet_zone s.log.zone _))))
    (quiet_append (next_log s).zone (superblock_blocks s.geometry.block)))
    (quiet_append (next_log s).zone (snapshot_blocks s.geometry.block (recorded s))))
    (quiet_zone s.log.zone _)) (quiet_log (next_log s)))

-- a roll where a record must have one
abbrev roll_first : ℕ → FsAction NoValue
roll_first blocks = from_state (λ s. when (must_roll s blocks) roll)

-- it is quiet
quiet_first : (blocks : ℕ) → IsQuiet (roll_first blocks)
quiet_first blocks = quiet_from (λ s. quiet_when (must_roll s blocks) quiet_roll)

-- a record that is added
quiet_record : (blocks : ℕ) → IsQuiet (add_record blocks)
quiet_record blocks = quiet_then (quiet_first blocks) (quiet_from (λ s. quiet_append s.log.zone blocks))

-- a roll is never refused
pub roll_answers : RollAnswers
roll_answers s = quiet_roll.ok s

-- nor is a record that is added
pub record_answers : RecordAnswers
record_answers s blocks = (quiet_record blocks).ok s

-- a roll keeps the files
pub roll_keeps_files : RollKeepsFiles
roll_keeps_files s = quiet_roll.keeps s

-- so does a record that is added
pub record_keeps_files : RecordKeepsFiles
record_keeps_files s blocks = (quiet_record blocks).keeps s

-- the last state of a record, by that of the roll before it
behind_first : (s : FsState) (blocks : ℕ) → after_record blocks s ≡ after_blocks blocks (roll_first blocks s).last
behind_first s blocks = ap (λ r. r.last) (goes_on (roll_first blocks) (from_state (λ t. append_blocks t.log.zone blocks)) s ((quiet_first blocks).ok s))

-- no roll
first_stays : (b : Bool) (s : FsState) → b ≡ false → (when b roll s).last ≡ s
first_stays true s h = absurd cc
first_stays false s h = refl

-- a roll
first_rolls : (b : Bool) (s : FsState) → b ≡ true → (when b roll s).last ≡ after_roll s
first_rolls true s h = refl
first_rolls false s h = absurd cc

-- a record that has room goes behind the others
pub record_goes_behind : RecordGoesBehind
record_goes_behind s blocks h = behind_first s blocks ∙ ap (after_blocks blocks) (first_stays (must_roll s blocks) s h)

-- else it goes behind a roll
pub record_goes_behind_roll : RecordGoesBehindRoll
record_goes_behind_roll s blocks h = behind_first s blocks ∙ ap (after_blocks blocks) (first_rolls (must_roll s blocks) s h)

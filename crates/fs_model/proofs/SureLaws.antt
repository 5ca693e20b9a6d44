-- Operations that are never refused, and the few refusals of a deletion and of a commit.
use Rattle.std.specs.Prelude.{◌≡◌, ◌⊎◌, ℕ, Bool, true, false, not, ◌&&◌, nat_lt, List, [], ◌∷◌, Option, Some, None, Result, Ok, Err, refl}
use Rattle.std.proofs.Common.{◌∙◌, ap, inl, inr}
use Rattle.log_model.specs.Headroom.{blocks_of_record, superblock_blocks, snapshot_blocks}
use Rattle.record_model.specs.declared.types.Record.TheVariants as records
use Rattle.fs_model.specs.declared.error.FsError.{FsError}
use Rattle.fs_model.specs.declared.error.FsError.TheVariants.{Gone, NotFound, SequenceEnd}
use Rattle.fs_model.specs.FsState.{FsState, TableRow, row_of, row_named, on_row, descriptor_at, room_in, recorded}
use Rattle.fs_model.specs.Trace.{Action, step, continue, ◌>>◌, from_state, refuse_if, when, each}
use Rattle.fs_model.specs.LogSteps.{append_blocks, reset_zone, reset_if_used, roll, roll_from, other_zones, next_log, add_record, refuse_sequence, reset_dead_zones, resettable_zones, is_used, must_roll, at_sequence_end, block_of}
use Rattle.fs_model.specs.TreeSteps.{delete, delete_row, delete_by, drop_name}
use Rattle.fs_model.specs.FileSteps.{commit, commit_blocks, commit_record, committed, or_gone, replace, replace_by, moved}
use Rattle.fs_model.specs.declared.zones.Move.{Move}

-- it is never refused
pub record IsSure {S : Type 0} (m : Action S (Unit {0})) : Type 0 where
  pub ok : (s : S) → (m s).answer ≡ Ok tt

-- what goes on after an Ok answers what comes then
goes_on : {S A B : Type 0} → (passed : List S) (last : S) (answer : Result A FsError) (x : A) (f : A → Action S B)
    → answer ≡ Ok x → (continue passed last answer f).answer ≡ (f x last).answer
goes_on passed last answer x f is = ap (λ r. (continue passed last r f).answer) is

-- one sure operation after another
pub sure_then : {S : Type 0} {m n : Action S (Unit {0})} → IsSure m → IsSure n → IsSure (m >> n)
sure_then {m = m} {n = n} a b = record { ok = λ s. goes_on (m s).passed (m s).last (m s).answer tt (λ _. n) (a.ok s) ∙ b.ok (m s).last }

-- a step
pub sure_step : {S : Type 0} → (f : S → S) → IsSure (step f)
sure_step f = record { ok = λ s. refl }

-- one that looks at the state
sure_from : {S : Type 0} {f : S → Action S (Unit {0})} → ((s : S) → IsSure (f s)) → IsSure (from_state f)
sure_from a = record { ok = λ s. (a s).ok s }

-- only where a test says so
sure_when : {S : Type 0} {m : Action S (Unit {0})} → (b : Bool) → IsSure m → IsSure (when b m)
sure_when true a = a
sure_when false a = record { ok = λ s. refl }

-- for each of a list
sure_each : {S X : Type 0} {f : X → Action S (Unit {0})} → (xs : List X) → ((x : X) → IsSure (f x)) → IsSure (each f xs)
sure_each [] a = record { ok = λ s. refl }
sure_each (x ∷ xs) a = sure_then (a x) (sure_each xs a)

-- an append to a zone
sure_append : (zone k : ℕ) → IsSure (append_blocks zone k)
sure_append zone k = record { ok = λ s. refl }

-- a reset of a zone
sure_reset : (zone : ℕ) → IsSure (reset_zone zone)
sure_reset zone = record { ok = λ s. refl }

-- a roll is never refused; what must roll is refused before it
sure_roll : IsSure roll
unfolding roll
sure_roll = sure_from {f = roll_from} (λ s.
    sure_then (sure_then (sure_then (sure_then (sure_then (sure_then
    (sure_each {f = reset_if_used} (other_zones s.log.zone) (λ zone. sure_from (λ t. sure_when (is_used (descriptor_at t zone)) (sure_reset zone))))
    (sure_from (λ t. sure_when (t.log.can_end && nat_lt 0 (room_in t t.log.zone)) (sure_append t.log.zone 1))))
    (sure_from (λ t. sure_when (not (descriptor_at t s.log.zone).info.sealed) (record { ok = λ u. refl }))))
    (sure_append (next_log s).zone (superblock_blocks s.geometry.block)))
    (sure_append (next_log s).zone (snapshot_blocks s.geometry.block (recorded s))))
    (sure_reset s.log.zone)) (sure_step _))

-- a record is added, after a roll where it must
sure_record : (blocks : ℕ) → IsSure (add_record blocks)
sure_record blocks = sure_then (sure_from (λ s. sure_when (must_roll s blocks) sure_roll)) (sure_from (λ s. sure_append s.log.zone blocks))

-- zones that nothing needs are reset
pub sure_resets : IsSure reset_dead_zones
sure_resets = sure_from (λ s. sure_each {f = reset_zone} (resettable_zones s) sure_reset)

-- it is refused with one cause alone
record RefusesOnly {S : Type 0} (only : FsError) (m : Action S (Unit {0})) : Type 0 where
  cause : (s : S) (e : FsError) → (m s).answer ≡ Err e → e ≡ only

-- where two operations are refused, the first is, or the second
which : {S : Type 0} → (passed : List S) (last : S) (answer : Result (Unit {0}) FsError) (n : Action S (Unit {0})) (only e : FsError)
    → (answer ≡ Err e → e ≡ only) → (n last).answer ≡ Ok tt → (continue passed last answer (λ _. n)).answer ≡ Err e → e ≡ only
which passed last (Ok x) n only e first second h = cc
which passed last (Err e') n only e first second h = first h

-- what is never refused adds no cause
refuses_then : {S : Type 0} {only : FsError} {m n : Action S (Unit {0})} → RefusesOnly only m → IsSure n → RefusesOnly only (m >> n)
refuses_then {only = only} {m = m} {n = n} a b =
    record { cause = λ s e h. which (m s).passed (m s).last (m s).answer n only e (a.cause s e) (b.ok (m s).last) h }

-- a test with its refusal
refused_by : {S : Type 0} → (broken : Bool) (only e : FsError) (s : S) → (refuse_if broken only s).answer ≡ Err e → e ≡ only
refused_by true only e s h = cc
refused_by false only e s h = cc

-- a record that has to roll at the end of the sequence
refuses_sequence : (blocks : ℕ) → RefusesOnly SequenceEnd (refuse_sequence blocks)
refuses_sequence blocks = record { cause = λ s e h. refused_by (must_roll s blocks && at_sequence_end s) SequenceEnd e s h }

-- a deletion of a name that is there
refuses_delete : (blocks : ℕ) (name : List ℕ) → RefusesOnly SequenceEnd (delete_by blocks name)
refuses_delete blocks name =
    refuses_then (refuses_then (refuses_then (refuses_sequence blocks) (sure_record blocks)) (sure_step (λ s. record s { rows = drop_name name s.rows }))) sure_resets

-- a commit of a file that is there
refuses_commit : (blocks now : ℕ) (r : TableRow) → RefusesOnly SequenceEnd (commit_blocks blocks now r)
refuses_commit blocks now r =
    refuses_then (refuses_then (refuses_then (refuses_sequence blocks) (sure_record blocks)) (sure_step (λ s. record s { rows = on_row r.entry.id (committed now) s.rows }))) sure_resets

-- a replacement of a file that is there
refuses_replace : (blocks id : ℕ) (ms : List Move) → RefusesOnly SequenceEnd (replace_by blocks id ms)
refuses_replace blocks id ms =
    refuses_then (refuses_then (refuses_sequence blocks) (sure_record blocks)) (sure_step (λ s. record s { rows = on_row id (moved ms) s.rows }))

-- a deletion, by the file that has the name
delete_row_answers : (s : FsState) (there : Option TableRow) (name : List ℕ) (e : FsError) → (delete_row s there name s).answer ≡ Err e → (e ≡ NotFound) ⊎ (e ≡ SequenceEnd)
delete_row_answers s None name e h = inl cc
delete_row_answers s (Some r) name e h =
    inr ((refuses_delete (blocks_of_record (block_of s) (records.Deletion r.entry.id name)) name).cause s e h)

-- a deletion is refused for its name, or at the end of the sequence; never for want of room
pub delete_answers : (name : List ℕ) (s : FsState) (e : FsError) → (delete name s).answer ≡ Err e → (e ≡ NotFound) ⊎ (e ≡ SequenceEnd)
unfolding delete
delete_answers name s e h = delete_row_answers s (row_named name s.rows) name e h

-- a commit, by the file
commit_row_answers : (s : FsState) (there : Option TableRow) (now : ℕ) (e : FsError)
    → (or_gone (λ r. from_state (λ t. commit_blocks (blocks_of_record (block_of t) (commit_record now r)) now r)) there s).answer ≡ Err e → (e ≡ Gone) ⊎ (e ≡ SequenceEnd)
commit_row_answers s None now e h = inl cc
commit_row_answers s (Some r) now e h = inr ((refuses_commit (blocks_of_record (block_of s) (commit_record now r)) now r).cause s e h)

-- so is a commit
pub commit_answers : (id now : ℕ) (s : FsState) (e : FsError) → (commit id now s).answer ≡ Err e → (e ≡ Gone) ⊎ (e ≡ SequenceEnd)
unfolding commit
commit_answers id now s e h = commit_row_answers s (row_of id s.rows) now e h

-- a replacement, by the file
replace_row_answers : (s : FsState) (there : Option TableRow) (id : ℕ) (ms : List Move) (e : FsError)
    → (or_gone (λ r. from_state (λ t. replace_by (blocks_of_record (block_of t) (records.Replace (moved ms r).entry)) id ms)) there s).answer ≡ Err e → (e ≡ Gone) ⊎ (e ≡ SequenceEnd)
replace_row_answers s None id ms e h = inl cc
replace_row_answers s (Some r) id ms e h = inr ((refuses_replace (blocks_of_record (block_of s) (records.Replace (moved ms r).entry)) id ms).cause s e h)

-- and a collector's replacement
pub replace_answers : (id : ℕ) (ms : List Move) (s : FsState) (e : FsError) → (replace id ms s).answer ≡ Err e → (e ≡ Gone) ⊎ (e ≡ SequenceEnd)
unfolding replace
replace_answers id ms s e h = replace_row_answers s (row_of id s.rows) id ms e h

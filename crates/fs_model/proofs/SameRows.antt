-- Operations on zones and on the log leave the files as they are.
use Rattle.std.specs.Prelude.{◌≡◌, ℕ, Bool, true, false, List, [], ◌∷◌, Result, Ok, Err, refl, not, ◌&&◌, nat_lt}
use Rattle.std.proofs.Common.{◌∙◌}
use Rattle.log_model.specs.Headroom.{superblock_blocks, snapshot_blocks}
use Rattle.fs_model.specs.declared.error.FsError.{FsError}
use Rattle.fs_model.specs.FsState.{FsState, descriptor_at, room_in, recorded}
use Rattle.fs_model.specs.Trace.{refuse_if, continue, ◌>>◌, from_state, when, each}
use Rattle.fs_model.specs.LogSteps.{FsAction, NoValue, append_blocks, finish_zone, reset_zone, is_used, reset_if_used, other_zones, next_log, roll_from, roll, must_roll, at_sequence_end, add_record, refuse_sequence, refuse_above}

-- the files afterwards are those before
pub record HasSameRows (m : FsAction NoValue) : Type 0 where
  pub rows : (s : FsState) → (m s).last.rows ≡ s.rows

-- what goes on after a trace
goes_on : (s : FsState) (passed : List FsState) (last : FsState) (answer : Result NoValue FsError) (n : FsAction NoValue)
    → last.rows ≡ s.rows → HasSameRows n → (continue passed last answer (λ _. n)).last.rows ≡ s.rows
goes_on s passed last (Err e) n first second = first
goes_on s passed last (Ok x) n first second = second.rows last ∙ first

-- one after another
pub rows_then : {m n : FsAction NoValue} → HasSameRows m → HasSameRows n → HasSameRows (m >> n)
rows_then {m = m} {n = n} a b = record { rows = λ s. goes_on s (m s).passed (m s).last (m s).answer n (a.rows s) b }

-- one that looks at the state
pub rows_from : (f : FsState → FsAction NoValue) → ((s : FsState) → HasSameRows (f s)) → HasSameRows (from_state f)
rows_from f a = record { rows = λ s. (a s).rows s }

-- only where a test says so
pub rows_when : {m : FsAction NoValue} → (b : Bool) → HasSameRows m → HasSameRows (when b m)
rows_when true a = a
rows_when false a = record { rows = λ s. refl }

-- a test
pub rows_refuse : (broken : Bool) (e : FsError) → HasSameRows (refuse_if broken e)
rows_refuse true e = record { rows = λ s. refl }
rows_refuse false e = record { rows = λ s. refl }

-- for each of a list
pub rows_each : {X : Type 0} {f : X → FsAction NoValue} → (xs : List X) → ((x : X) → HasSameRows (f x)) → HasSameRows (each f xs)
rows_each [] a = record { rows = λ s. refl }
rows_each (x ∷ xs) a = rows_then (a x) (rows_each xs a)

-- steps on zones
rows_append : (zone k : ℕ) → HasSameRows (append_blocks zone k)
rows_append zone k = record { rows = λ s. refl }

-- a reset
pub rows_reset : (zone : ℕ) → HasSameRows (reset_zone zone)
rows_reset zone = record { rows = λ s. refl }

-- a finish
rows_finish : (zone : ℕ) → HasSameRows (finish_zone zone)
rows_finish zone = record { rows = λ s. refl }

-- a roll
rows_roll : HasSameRows roll
unfolding roll
rows_roll = rows_from roll_from (λ s.
    rows_then (rows_then (rows_then (rows_then (rows_then (rows_then
    (rows_each {f = reset_if_used} (other_zones s.log.zone) (λ zone. rows_from _ (λ t. rows_when (is_used (descriptor_at t zone)) (rows_reset zone))))
    (rows_from _ (λ t. rows_when (t.log.can_end && nat_lt 0 (room_in t t.log.zone)) (rows_append t.log.zone 1))))
    (rows_from _ (λ t. rows_when (not (descriptor_at t s.log.zone).info.sealed) (rows_finish s.log.zone))))
    (rows_append (next_log s).zone (superblock_blocks s.geometry.block)))
    (rows_append (next_log s).zone (snapshot_blocks s.geometry.block (recorded s))))
    (rows_reset s.log.zone))
    (record { rows = λ t. refl }))

-- a record
pub rows_record : (blocks : ℕ) → HasSameRows (add_record blocks)
rows_record blocks = rows_then (rows_from _ (λ s. rows_when (must_roll s blocks) rows_roll)) (rows_from _ (λ s. rows_append s.log.zone blocks))

-- what is refused before it
pub rows_tests : (blocks : ℕ) → HasSameRows (refuse_sequence blocks)
rows_tests blocks = rows_from _ (λ s. rows_refuse (must_roll s blocks && at_sequence_end s) _)

-- a test of a need
pub rows_need_test : (s : FsState) (need : ℕ) → HasSameRows (refuse_above s need)
rows_need_test s need = rows_refuse (nat_lt s.geometry.capacity need) _

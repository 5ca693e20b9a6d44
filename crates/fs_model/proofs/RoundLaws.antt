-- Rounds of the collector: once they have come to an end, a greater bound changes nothing.
use Rattle.std.specs.Prelude.{◌≡◌, ℕ, zero, suc, ◌+◌, Bool, true, false, ◌||◌, List, [], ◌∷◌, ◌++◌, Result, Ok, Err, refl, if◌then◌else◌}
use Rattle.std.proofs.Common.{ap, subst, arith}
use Rattle.std.proofs.lemmas.Bool.{false≢true}
use Rattle.fs_model.specs.declared.error.FsError.{FsError}
use Rattle.fs_model.specs.Trace.{done, continue, preceded_by}
use Rattle.fs_model.specs.Migration.{Collecting, CollectorAction, Round, round, rounds, is_nothing, retired_after, ends_with, are_enough}

-- what follows a round, with a bound
abbrev after_round : ℕ → ℕ → Round → CollectorAction ℕ
after_round k n r = if is_nothing r then done n else rounds k (retired_after r n)

-- where there is nothing to do the bound doesn't matter; else it is that of the other rounds
one_of_two : (nothing : Bool) (enough : Bool) (a b c : CollectorAction ℕ) (s : Collecting) → (enough ≡ true → b s ≡ c s)
    → (nothing || enough) ≡ true → (if nothing then a else b) s ≡ (if nothing then a else c) s
one_of_two true enough a b c s same h = refl
one_of_two false enough a b c s same h = same h

-- one more round
more_after : (passed : List Collecting) (last : Collecting) (answer : Result Round FsError) (k j n : ℕ)
    → ((i : ℕ) → are_enough k last ≡ true → rounds (k + j) i last ≡ rounds k i last)
    → ends_with answer (are_enough k last) ≡ true
    → continue passed last answer (after_round (k + j) n) ≡ continue passed last answer (after_round k n)
more_after passed last (Err e) k j n same h = refl
more_after passed last (Ok r) k j n same h =
    ap (λ t. preceded_by (passed ++ last ∷ []) t)
    (one_of_two (is_nothing r) (are_enough k last) (done n) (rounds (k + j) (retired_after r n)) (rounds k (retired_after r n)) last (same (retired_after r n)) h)

-- where so many rounds are enough, more of them do the same
pub more_rounds : (k j n : ℕ) (s : Collecting) → are_enough k s ≡ true → rounds (k + j) n s ≡ rounds k n s
more_rounds zero j n s h = absurd (false≢true h)
more_rounds (suc k) j n s h =
    let P : ℕ → Type 0 = λ i. rounds i n s ≡ rounds (suc k) n s in
    let more : suc (k + j) ≡ suc k + j = omega arith in
    subst P more (more_after (round s).passed (round s).last (round s).answer k j n (λ i. more_rounds k j i (round s).last) h)

-- Once the selected log has gone, the logs of higher sequences beside it are passed over.
use Rattle.std.specs.Prelude.{◌≡◌, ◌≢◌, ℕ, ◌≤◌, Bool, true, false, ◌||◌, cond, List, [], ◌∷◌, ◌++◌, Option, Some, None, Ok, ◌==◌, filter, refl}
use Rattle.std.proofs.Common.{◌∙◌, ap, sym, arith}
use Rattle.std.proofs.lemmas.Bool.{eq-eqb, false_from_ne_true}
use Rattle.std.proofs.lemmas.List.Folds.{list_any-append}
use Rattle.std.specs.List.{list_any}
use Rattle.log_model.specs.LogSelection.{LogAt, add_log, counts, current_log, greatest_sequence, newest, twin}
use Rattle.log_model.proofs.SelectionLaws.{newest_sequence, sequence_of, undamaged_is}
use Rattle.log_model.proofs.TwinLaws.{fewer_have_no_twin}
use Rattle.log_model.proofs.GrowingLog.{Each}

-- what holds of each log holds of one of them
each_at : (P : LogAt → Type 0) (front back : List LogAt) (log : LogAt) → Each P (front ++ log ∷ back) → P log
each_at P [] back log h = h.0
each_at P (f ∷ front) back log h = each_at P front back log h.1

-- and of the others
each_less : (P : LogAt → Type 0) (front back : List LogAt) (log : LogAt) → Each P (front ++ log ∷ back) → Each P (front ++ back)
each_less P [] back log h = h.1
each_less P (f ∷ front) back log h = (h.0, each_less P front back log h.1)

-- where there is no twin, the first log is none, and none follows
no_twin_parts : (b : Bool) (log : LogAt) (rest : Option LogAt) → cond b (Some log) rest ≡ None → (b ≡ false) × (rest ≡ None)
no_twin_parts true log rest h = cc
no_twin_parts false log rest h = (refl, h)

-- one of these logs has the sequence
abbrev has_sequence : ℕ → List LogAt → Bool
has_sequence n logs = list_any (λ l. l.superblock.sequence == n) logs

-- the last one has its own
last_has : (b : Bool) (n : ℕ) → (b || ((n == n) || false)) ≡ true
last_has true n = refl
last_has false n = ap (λ t. t || false) (eq-eqb n n refl)

-- where there is no twin, no log has the sequence of an earlier one
other_than : (n : ℕ) (earlier logs : List LogAt) → twin earlier logs ≡ None → has_sequence n earlier ≡ true → Each (λ l. l.superblock.sequence ≢ n) logs
other_than n earlier [] h there = tt
other_than n earlier (l ∷ ls) h there =
    let parts = no_twin_parts (has_sequence l.superblock.sequence earlier) l (twin (earlier ++ l ∷ []) ls) h in
    let more : has_sequence n (earlier ++ l ∷ []) ≡ true =
    list_any-append (λ x. x.superblock.sequence == n) earlier (l ∷ []) ∙ ap (λ b. b || ((l.superblock.sequence == n) || false)) there in (
      λ same. let e : has_sequence l.superblock.sequence earlier ≡ has_sequence n earlier = ap (λ m. has_sequence m earlier) same in cc (e, parts.0, there),
      other_than n (earlier ++ l ∷ []) ls parts.1 more,
    )

-- a log that was added has its sequence
added_has : (earlier : List LogAt) (log : LogAt) → has_sequence log.superblock.sequence (earlier ++ log ∷ []) ≡ true
added_has earlier log =
    list_any-append (λ x. x.superblock.sequence == log.superblock.sequence) earlier (log ∷ []) ∙ last_has (has_sequence log.superblock.sequence earlier) log.superblock.sequence

-- where there is no twin, the others have other sequences
apart_from : (earlier front back : List LogAt) (log : LogAt) → twin earlier (front ++ log ∷ back) ≡ None → Each (λ l. l.superblock.sequence ≢ log.superblock.sequence) (front ++ back)
apart_from earlier [] back log h =
    let parts = no_twin_parts (has_sequence log.superblock.sequence earlier) log (twin (earlier ++ log ∷ []) back) h in
    other_than log.superblock.sequence (earlier ++ log ∷ []) back parts.1 (added_has earlier log)
apart_from earlier (f ∷ front) back log h =
    let parts = no_twin_parts (has_sequence f.superblock.sequence earlier) f (twin (earlier ++ f ∷ []) (front ++ log ∷ back)) h in
    let others : Each (λ l. l.superblock.sequence ≢ f.superblock.sequence) (front ++ log ∷ back) = other_than f.superblock.sequence (earlier ++ f ∷ []) (front ++ log ∷ back) parts.1 (added_has earlier f) in (
      λ same. each_at (λ l. l.superblock.sequence ≢ f.superblock.sequence) front back log others (sym same),
      apart_from (earlier ++ f ∷ []) front back log parts.1,
    )

-- a log that counts isn't above the greatest of those that do
kept_below : (b : Bool) (n : ℕ) (log : LogAt) (logs : List LogAt) → greatest_sequence (cond b (log ∷ logs) logs) ≤ n → (greatest_sequence logs ≤ n) × (b ≡ true → log.superblock.sequence ≤ n)
kept_below true n log logs h = (omega arith, λ e. omega arith)
kept_below false n log logs h = (h, λ e. cc)

counted_below : (n : ℕ) (logs : List LogAt) → greatest_sequence (filter counts logs) ≤ n → Each (λ l. counts l ≡ true → l.superblock.sequence ≤ n) logs
counted_below n [] h = tt
counted_below n (l ∷ ls) h = let parts = kept_below (counts l) n l (filter counts ls) h in (parts.1, counted_below n ls parts.0)

-- a log that would have to be both above and not above a sequence doesn't count
uncounted : (n : ℕ) (logs : List LogAt) → Each (λ l. counts l ≡ true → l.superblock.sequence ≤ n) logs → Each (λ l. l.superblock.sequence ≢ n) logs → Each (λ l. n ≤ l.superblock.sequence) logs
    → Each (λ l. counts l ≡ false) logs
uncounted n [] below other above = tt
uncounted n (l ∷ ls) below other above = (
  false_from_ne_true (counts l) (λ c. let most : l.superblock.sequence ≤ n = below.0 c in let least : n ≤ l.superblock.sequence = above.0 in let same : l.superblock.sequence ≡ n = omega arith in other.0 same),
  uncounted n ls below.1 other.1 above.1,
)

-- the logs beside the selected one, where none is below it, are passed over
pub others_passed_over : (front back : List LogAt) (log : LogAt) → twin [] (front ++ log ∷ back) ≡ None → current_log (front ++ log ∷ back) ≡ Ok log
    → Each (λ l. log.superblock.sequence ≤ l.superblock.sequence) (front ++ back) → Each (λ l. counts l ≡ false) (front ++ back)
others_passed_over front back log apart current above =
    let all : List LogAt = front ++ log ∷ back in
    let n : ℕ = log.superblock.sequence in
    let own : n ≡ greatest_sequence (filter counts all) = sym (ap sequence_of (undamaged_is (newest (filter counts all)) log current)) ∙ newest_sequence (filter counts all) in
    uncounted n (front ++ back)
    (each_less (λ l. counts l ≡ true → l.superblock.sequence ≤ n) front back log (counted_below n all (omega (arith, own))))
    (apart_from [] front back log apart) above

-- where none counts and none is a twin, the same holds of fewer
pub fewer_passed_over : (front back : List LogAt) (here : Option LogAt) → twin [] (front ++ add_log here back) ≡ None → Each (λ l. counts l ≡ false) (front ++ add_log here back)
    → (twin [] (front ++ back) ≡ None) × Each (λ l. counts l ≡ false) (front ++ back)
fewer_passed_over front back None apart none = (apart, none)
fewer_passed_over front back (Some log) apart none = (fewer_have_no_twin front back log apart, each_less (λ l. counts l ≡ false) front back log none)

-- none of them is kept
pub none_kept : (logs : List LogAt) → Each (λ l. counts l ≡ false) logs → filter counts logs ≡ []
none_kept [] h = refl
none_kept (l ∷ ls) h = ap (λ b. cond b (l ∷ filter counts ls) (filter counts ls)) h.0 ∙ none_kept ls h.1

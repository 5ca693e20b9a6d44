-- Logs that come and go without two of one sequence.
use Rattle.std.specs.Prelude.{◌≡◌, ℕ, ◌<◌, Bool, true, false, ◌||◌, cond, List, [], ◌∷◌, ◌++◌, Option, Some, None, ◌==◌, refl}
use Rattle.std.proofs.Common.{◌∙◌, ap, sym, append_assoc, arith}
use Rattle.std.proofs.lemmas.Bool.{ne_eqb, or_parts, or_from}
use Rattle.std.proofs.lemmas.List.{append-nil}
use Rattle.std.proofs.lemmas.List.Folds.{list_any-append}
use Rattle.std.specs.List.{list_any}
use Rattle.log_model.specs.LogSelection.{LogAt, twin, greatest_sequence}
use Rattle.log_model.specs.SelectionLaws.{FewerHaveNoTwin, HigherHasNoTwin}
use Rattle.log_model.proofs.SelectionLaws.{greatest_append}

-- one of these logs has the sequence
has_sequence : ℕ → List LogAt → Bool
has_sequence n logs = list_any (λ l. l.superblock.sequence == n) logs

-- where there is no twin, the first log is none, and none follows
no_twin_parts : (b : Bool) (log : LogAt) (rest : Option LogAt) → cond b (Some log) rest ≡ None → (b ≡ false) × (rest ≡ None)
no_twin_parts true log rest h = cc
no_twin_parts false log rest h = (refl, h)

-- no log has a sequence above all of theirs
none_above : (n : ℕ) (logs : List LogAt) → greatest_sequence logs < n → has_sequence n logs ≡ false
unfolding has_sequence
none_above n [] h = refl
none_above n (log ∷ logs) h =
    or_from (log.superblock.sequence == n) (has_sequence n logs) (ne_eqb log.superblock.sequence n (λ e. omega arith)) (none_above n logs (omega arith))

-- fewer logs have no more sequences
fewer_sequences : (n : ℕ) (before after : List LogAt) (log : LogAt) → has_sequence n (before ++ log ∷ after) ≡ false → has_sequence n (before ++ after) ≡ false
unfolding has_sequence
fewer_sequences n before after log h =
    let all = or_parts (has_sequence n before) (has_sequence n (log ∷ after)) (sym (list_any-append (λ l. l.superblock.sequence == n) before (log ∷ after)) ∙ h) in
    let behind = or_parts (log.superblock.sequence == n) (has_sequence n after) all.1 in
    list_any-append (λ l. l.superblock.sequence == n) before after ∙ or_from (has_sequence n before) (has_sequence n after) all.0 behind.1

-- a log of another sequence adds none of this one
other_sequence : (n : ℕ) (before after : List LogAt) (log : LogAt) → n < log.superblock.sequence → has_sequence n (before ++ after) ≡ false → has_sequence n (before ++ log ∷ after) ≡ false
unfolding has_sequence
other_sequence n before after log less h =
    let all = or_parts (has_sequence n before) (has_sequence n after) (sym (list_any-append (λ l. l.superblock.sequence == n) before after) ∙ h) in
    let apart : (log.superblock.sequence == n) ≡ false = ne_eqb log.superblock.sequence n (λ e. omega arith) in
    list_any-append (λ l. l.superblock.sequence == n) before (log ∷ after)
    ∙ or_from (has_sequence n before) (has_sequence n (log ∷ after)) all.0 (or_from (log.superblock.sequence == n) (has_sequence n after) apart all.1)

-- fewer earlier logs leave none a twin
fewer_earlier : (before after : List LogAt) (log : LogAt) (logs : List LogAt) → twin (before ++ log ∷ after) logs ≡ None → twin (before ++ after) logs ≡ None
unfolding has_sequence
fewer_earlier before after log [] h = refl
fewer_earlier before after log (l ∷ ls) h =
    let here = no_twin_parts (has_sequence l.superblock.sequence (before ++ log ∷ after)) l (twin ((before ++ log ∷ after) ++ l ∷ []) ls) h in
    let moved : twin (before ++ log ∷ (after ++ l ∷ [])) ls ≡ None = ap (λ e. twin e ls) (sym (append_assoc before (log ∷ after) (l ∷ []))) ∙ here.1 in
    ap (λ b. cond b (Some l) (twin ((before ++ after) ++ l ∷ []) ls)) (fewer_sequences l.superblock.sequence before after log here.0)
    ∙ (ap (λ e. twin e ls) (append_assoc before after (l ∷ [])) ∙ fewer_earlier before (after ++ l ∷ []) log ls moved)

-- one more earlier log above all others leaves none a twin
more_earlier : (before after : List LogAt) (log : LogAt) (logs : List LogAt) → greatest_sequence logs < log.superblock.sequence
    → twin (before ++ after) logs ≡ None → twin (before ++ log ∷ after) logs ≡ None
unfolding has_sequence
more_earlier before after log [] above h = refl
more_earlier before after log (l ∷ ls) above h =
    let here = no_twin_parts (has_sequence l.superblock.sequence (before ++ after)) l (twin ((before ++ after) ++ l ∷ []) ls) h in
    let moved : twin (before ++ (after ++ l ∷ [])) ls ≡ None = ap (λ e. twin e ls) (sym (append_assoc before after (l ∷ []))) ∙ here.1 in
    ap (λ b. cond b (Some l) (twin ((before ++ log ∷ after) ++ l ∷ []) ls)) (other_sequence l.superblock.sequence before after log (omega arith) here.0)
    ∙ (ap (λ e. twin e ls) (append_assoc before (log ∷ after) (l ∷ [])) ∙ more_earlier before (after ++ l ∷ []) log ls (omega arith) moved)

-- without a log there is no twin behind these earlier ones either
fewer_behind : (earlier before after : List LogAt) (log : LogAt) → twin earlier (before ++ log ∷ after) ≡ None → twin earlier (before ++ after) ≡ None
unfolding has_sequence
fewer_behind earlier [] after log h =
    let here = no_twin_parts (has_sequence log.superblock.sequence earlier) log (twin (earlier ++ log ∷ []) after) h in
    ap (λ e. twin e after) (sym (append-nil earlier)) ∙ fewer_earlier earlier [] log after here.1
fewer_behind earlier (b ∷ before) after log h =
    let here = no_twin_parts (has_sequence b.superblock.sequence earlier) b (twin (earlier ++ b ∷ []) (before ++ log ∷ after)) h in
    ap (λ t. cond t (Some b) (twin (earlier ++ b ∷ []) (before ++ after))) here.0 ∙ fewer_behind (earlier ++ b ∷ []) before after log here.1

-- with a log above all others there is none either
higher_behind : (earlier before after : List LogAt) (log : LogAt) → greatest_sequence earlier < log.superblock.sequence
    → greatest_sequence (before ++ after) < log.superblock.sequence → twin earlier (before ++ after) ≡ None → twin earlier (before ++ log ∷ after) ≡ None
unfolding has_sequence
higher_behind earlier [] after log below above h =
    ap (λ t. cond t (Some log) (twin (earlier ++ log ∷ []) after)) (none_above log.superblock.sequence earlier below)
    ∙ more_earlier earlier [] log after above (ap (λ e. twin e after) (append-nil earlier) ∙ h)
higher_behind earlier (b ∷ before) after log below above h =
    let here = no_twin_parts (has_sequence b.superblock.sequence earlier) b (twin (earlier ++ b ∷ []) (before ++ after)) h in
    ap (λ t. cond t (Some b) (twin (earlier ++ b ∷ []) (before ++ log ∷ after))) here.0
    ∙ higher_behind (earlier ++ b ∷ []) before after log (omega (arith, greatest_append earlier (b ∷ []))) (omega arith) here.1

pub fewer_have_no_twin : FewerHaveNoTwin
fewer_have_no_twin before after log h = fewer_behind [] before after log h

pub higher_has_no_twin : HigherHasNoTwin
higher_has_no_twin before after log h above = higher_behind [] before after log (omega arith) above h

-- a log of the same sequence in place of another has the same
same_sequence : (n : ℕ) (before after : List LogAt) (log it : LogAt) → it.superblock.sequence ≡ log.superblock.sequence
    → has_sequence n (before ++ it ∷ after) ≡ has_sequence n (before ++ log ∷ after)
unfolding has_sequence
same_sequence n before after log it same =
    list_any-append (λ l. l.superblock.sequence == n) before (it ∷ after)
    ∙ (ap (λ m. has_sequence n before || ((m == n) || has_sequence n after)) same ∙ sym (list_any-append (λ l. l.superblock.sequence == n) before (log ∷ after)))

-- it leaves no later one a twin
replaced_earlier : (before after : List LogAt) (log it : LogAt) (logs : List LogAt) → it.superblock.sequence ≡ log.superblock.sequence
    → twin (before ++ log ∷ after) logs ≡ None → twin (before ++ it ∷ after) logs ≡ None
unfolding has_sequence
replaced_earlier before after log it [] same h = refl
replaced_earlier before after log it (l ∷ ls) same h =
    let here = no_twin_parts (has_sequence l.superblock.sequence (before ++ log ∷ after)) l (twin ((before ++ log ∷ after) ++ l ∷ []) ls) h in
    let moved : twin (before ++ log ∷ (after ++ l ∷ [])) ls ≡ None = ap (λ e. twin e ls) (sym (append_assoc before (log ∷ after) (l ∷ []))) ∙ here.1 in
    ap (λ b. cond b (Some l) (twin ((before ++ it ∷ after) ++ l ∷ []) ls)) (same_sequence l.superblock.sequence before after log it same ∙ here.0)
    ∙ (ap (λ e. twin e ls) (append_assoc before (it ∷ after) (l ∷ [])) ∙ replaced_earlier before (after ++ l ∷ []) log it ls same moved)

-- nor is it one
pub replaced_behind : (earlier before after : List LogAt) (log it : LogAt) → it.superblock.sequence ≡ log.superblock.sequence
    → twin earlier (before ++ log ∷ after) ≡ None → twin earlier (before ++ it ∷ after) ≡ None
unfolding has_sequence
replaced_behind earlier [] after log it same h =
    let here = no_twin_parts (has_sequence log.superblock.sequence earlier) log (twin (earlier ++ log ∷ []) after) h in
    ap (λ n. cond (has_sequence n earlier) (Some it) (twin (earlier ++ it ∷ []) after)) same
    ∙ (ap (λ t. cond t (Some it) (twin (earlier ++ it ∷ []) after)) here.0 ∙ replaced_earlier earlier [] log it after same here.1)
replaced_behind earlier (b ∷ before) after log it same h =
    let here = no_twin_parts (has_sequence b.superblock.sequence earlier) b (twin (earlier ++ b ∷ []) (before ++ log ∷ after)) h in
    ap (λ t. cond t (Some b) (twin (earlier ++ b ∷ []) (before ++ it ∷ after))) here.0 ∙ replaced_behind (earlier ++ b ∷ []) before after log it same here.1

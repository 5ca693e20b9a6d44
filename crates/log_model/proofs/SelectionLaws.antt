-- Which logs may come and go without another one being selected.
use Rattle.std.specs.Prelude.{◌≡◌, ℕ, ◌+◌, ◌<◌, ◌≤◌, max, Bool, true, false, cond, List, [], ◌∷◌, ◌++◌, Option, Some, None, Result, Ok, Err, nat_lt, filter, refl}
use Rattle.std.proofs.Common.{◌∙◌, ap, sym, ⊎_elim, inl, inr, arith}
use Rattle.std.proofs.lemmas.Bool.{lt-ltb, le-ltb, ltb-true, ltb-false, cases_Bool}
use Rattle.std.proofs.lemmas.List.Elements.{filter-append}
use mathlib.Core.Logic.{◌⊎◌}
use Rattle.zone_image.specs.declared.Geometry.{Geometry}
use Rattle.record_model.specs.FieldDecoding.{◌>>=◌}
use Rattle.log_model.specs.declared.selection.Refusal.{Refusal}
use Rattle.log_model.specs.LogScan.{Scan, ScanEnd}
use Rattle.log_model.specs.LogScan.ScanEnd.{Clean, Torn, Bad}
use Rattle.log_model.specs.ScanLaws.{is_bad}
use Rattle.log_model.specs.LogSelection.{LogAt, log_of_zone, logs_from, add_log, has_snapshot, decides, counts, newer, newest, undamaged, greatest_sequence}
use Rattle.log_model.specs.SelectionLaws.{SkippedZoneHasNoLog, PassedOverMayGo, NewestIsSelected, OtherMayGo}

-- a result that is given on as it is
given_on : {A E : Type 0} → (r : Result A E) → (r >>= (λ x. Ok x)) ≡ r
given_on (Ok x) = refl
given_on (Err e) = refl

-- a zone without payloads has no log, unless it ends bad
no_log : (g : Geometry) (zone : ℕ) (c : Scan) (payloads : List (ℕ × List ℕ)) (end : ScanEnd) → payloads ≡ [] → is_bad end ≡ false
    → log_of_zone g zone c payloads end ≡ Ok None
no_log g zone c (p ∷ ps) end h ok = cc
no_log g zone c [] Clean h ok = refl
no_log g zone c [] (Torn block) h ok = refl
no_log g zone c [] (Bad block len stored computed) h ok = cc

pub skipped_zone_has_no_log : SkippedZoneHasNoLog
skipped_zone_has_no_log g zone c cs none ok =
    ap (λ first. first >>= (λ log. logs_from g (zone + 1) cs >>= (λ others. Ok (add_log log others)))) (no_log g zone c c.payloads c.end none ok)
    ∙ given_on (logs_from g (zone + 1) cs)

-- the logs that count, without one that doesn't
pub uncounted_goes : (before after : List LogAt) (log : LogAt) → counts log ≡ false → filter counts (before ++ log ∷ after) ≡ filter counts (before ++ after)
uncounted_goes before after log h =
    filter-append counts before (log ∷ after)
    ∙ (ap (λ b. filter counts before ++ cond b (log ∷ filter counts after) (filter counts after)) h
    ∙ sym (filter-append counts before after))

-- the logs that count, with one that does
pub counted_stays : (before after : List LogAt) (log : LogAt) → counts log ≡ true
    → filter counts (before ++ log ∷ after) ≡ filter counts before ++ log ∷ filter counts after
counted_stays before after log h =
    filter-append counts before (log ∷ after)
    ∙ ap (λ b. filter counts before ++ cond b (log ∷ filter counts after) (filter counts after)) h

pub passed_over_may_go : PassedOverMayGo
passed_over_may_go before after log h = ap (λ logs. undamaged (newest logs)) (uncounted_goes before after log h)

-- the sequence of a log, if there is one
abbrev pub sequence_of : Option LogAt → ℕ
sequence_of None = 0
sequence_of (Some log) = log.superblock.sequence

-- the newer one where the test is known
chosen_sequence : (lower : Bool) (log other : LogAt) → nat_lt log.superblock.sequence other.superblock.sequence ≡ lower
    → sequence_of (cond lower (Some other) (Some log)) ≡ max log.superblock.sequence other.superblock.sequence
chosen_sequence true log other h = omega (arith, ltb-true log.superblock.sequence other.superblock.sequence h)
chosen_sequence false log other h = omega (arith, ltb-false log.superblock.sequence other.superblock.sequence h)

-- the newer of two has the greater sequence
newer_sequence : (log : LogAt) (o : Option LogAt) → sequence_of (newer log o) ≡ max log.superblock.sequence (sequence_of o)
newer_sequence log None = omega arith
newer_sequence log (Some other) = chosen_sequence _ log other refl

-- the newest log has the greatest sequence
pub newest_sequence : (logs : List LogAt) → sequence_of (newest logs) ≡ greatest_sequence logs
newest_sequence [] = refl
newest_sequence (log ∷ logs) = newer_sequence log (newest logs) ∙ ap (λ n. max log.superblock.sequence n) (newest_sequence logs)

-- a log of a lower sequence isn't the newer one
pub newer_is_other : (log other : LogAt) → log.superblock.sequence < other.superblock.sequence → newer log (Some other) ≡ Some other
newer_is_other log other h = ap (λ b. cond b (Some other) (Some log)) (lt-ltb log.superblock.sequence other.superblock.sequence h)

-- a log of no lower sequence is
pub newer_is_first : (log : LogAt) (o : Option LogAt) → sequence_of o ≤ log.superblock.sequence → newer log o ≡ Some log
newer_is_first log None h = refl
newer_is_first log (Some other) h = ap (λ b. cond b (Some other) (Some log)) (le-ltb log.superblock.sequence other.superblock.sequence h)

-- the greatest sequence of logs that are joined
pub greatest_append : (xs ys : List LogAt) → greatest_sequence (xs ++ ys) ≡ max (greatest_sequence xs) (greatest_sequence ys)
greatest_append [] ys = omega arith
greatest_append (x ∷ xs) ys = omega (arith, greatest_append xs ys)

-- a log above all others is the newest
newest_at : (before after : List LogAt) (log : LogAt) → greatest_sequence (before ++ after) < log.superblock.sequence → newest (before ++ log ∷ after) ≡ Some log
newest_at [] after log h = newer_is_first log (newest after) (omega (arith, newest_sequence after))
newest_at (b ∷ before) after log h =
    ap (newer b) (newest_at before after log (omega arith)) ∙ newer_is_other b log (omega arith)

-- with or without a log, the sequences of the others stay below
greatest_either : (b : Bool) (kept : List LogAt) (log : LogAt) (n : ℕ) → greatest_sequence kept ≤ n
    → greatest_sequence (cond b (log ∷ kept) kept) ≤ max log.superblock.sequence n
greatest_either true kept log n h = omega arith
greatest_either false kept log n h = omega arith

-- fewer logs have no greater sequence
pub greatest_filter : (logs : List LogAt) → greatest_sequence (filter counts logs) ≤ greatest_sequence logs
greatest_filter [] = omega arith
greatest_filter (log ∷ logs) = greatest_either (counts log) (filter counts logs) log (greatest_sequence logs) (greatest_filter logs)

-- a log with a snapshot is selected where it is the newest
pub selected_when_newest : (o : Option LogAt) (log : LogAt) → o ≡ Some log → has_snapshot log ≡ Ok true → undamaged o ≡ Ok log
selected_when_newest o log is h = ap undamaged is ∙ ap (λ r. r >>= (λ there. Ok log)) h

pub newest_is_selected : NewestIsSelected
newest_is_selected before after log h above =
    let below : greatest_sequence (filter counts before ++ filter counts after) < log.superblock.sequence =
    omega (arith, greatest_append (filter counts before) (filter counts after), greatest_append before after, greatest_filter before, greatest_filter after) in
    selected_when_newest (newest (filter counts (before ++ log ∷ after))) log
    (ap newest (counted_stays before after log (ap decides h)) ∙ newest_at (filter counts before) (filter counts after) log below) h

-- the log that an undamaged one is
pub undamaged_is : (o : Option LogAt) (log : LogAt) → undamaged o ≡ Ok log → o ≡ Some log
undamaged_is None log h = cc
undamaged_is (Some other) log h = ap Some (read_back (has_snapshot other) other log h)
  where
    read_back : (r : Result Bool Refusal) (other log : LogAt) → (r >>= (λ there. Ok other)) ≡ Ok log → other ≡ log
    read_back (Ok there) other log h = cc
    read_back (Err why) other log h = cc

-- what stands in a Some
pub some_is : {A : Type 0} {x y : A} → Some x ≡ Some y → x ≡ y
some_is h = cc

-- the one or the other of two logs
newer_split : (lower : Bool) (log other it : LogAt) → nat_lt log.superblock.sequence other.superblock.sequence ≡ lower → cond lower (Some other) (Some log) ≡ Some it
    → ((Some other ≡ Some it) × (log.superblock.sequence < it.superblock.sequence)) ⊎ ((log ≡ it) × (other.superblock.sequence ≤ log.superblock.sequence))
newer_split true log other it test h =
    let same : other.superblock.sequence ≡ it.superblock.sequence = ap (λ l. l.superblock.sequence) (some_is h) in
    inl (h, omega (arith, ltb-true log.superblock.sequence other.superblock.sequence test))
newer_split false log other it test h = inr (some_is h, ltb-false log.superblock.sequence other.superblock.sequence test)

-- where the newer of two is this log, it is the one or the other
pub newer_cases : (log : LogAt) (o : Option LogAt) (it : LogAt) → newer log o ≡ Some it
    → ((o ≡ Some it) × (log.superblock.sequence < it.superblock.sequence)) ⊎ ((log ≡ it) × (sequence_of o ≤ log.superblock.sequence))
newer_cases log None it h = inr (some_is h, omega arith)
newer_cases log (Some other) it h = newer_split (nat_lt log.superblock.sequence other.superblock.sequence) log other it refl h

-- the newest log is this one, or it is the newest without it
pub newest_without : (before after : List LogAt) (other log : LogAt) → newest (before ++ other ∷ after) ≡ Some log
    → (other ≡ log) ⊎ (newest (before ++ after) ≡ Some log)
newest_without [] after other log is = ⊎_elim (λ h. inr h.0) (λ h. inl h.0) (newer_cases other (newest after) log is)
newest_without (b ∷ before) after other log is =
    ⊎_elim
    (λ h. ⊎_elim (λ e. inl e) (λ e. inr (ap (newer b) e ∙ newer_is_other b log h.1)) (newest_without before after other log h.0))
    (λ h.
    let fewer : sequence_of (newest (before ++ after)) ≤ b.superblock.sequence =
    omega (arith, newest_sequence (before ++ after), newest_sequence (before ++ other ∷ after), greatest_append before after, greatest_append before (other ∷ after)) in
    inr (newer_is_first b (newest (before ++ after)) fewer ∙ ap Some h.0))
    (newer_cases b (newest (before ++ other ∷ after)) log is)

pub other_may_go : OtherMayGo
other_may_go before after other log is apart =
    ⊎_elim
    (λ counted.
    let newest_is : newest (filter counts (before ++ other ∷ after)) ≡ Some log = undamaged_is (newest (filter counts (before ++ other ∷ after))) log is in
    let split : newest (filter counts before ++ other ∷ filter counts after) ≡ Some log = sym (ap newest (counted_stays before after other counted)) ∙ newest_is in
    let without : newest (filter counts before ++ filter counts after) ≡ Some log =
    ⊎_elim (λ e. absurd (apart e)) (λ e. e) (newest_without (filter counts before) (filter counts after) other log split) in
    ap (λ logs. undamaged (newest logs)) (filter-append counts before after) ∙ (ap undamaged (without ∙ sym newest_is) ∙ is))
    (λ uncounted. sym (passed_over_may_go before after other uncounted) ∙ is)
    (cases_Bool (counts other))

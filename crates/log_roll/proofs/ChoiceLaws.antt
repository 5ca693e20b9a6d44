-- The choice among the summaries of the zones is the selection of a log.
use Rattle.std.proofs.Common.{◌≡◌, ℕ, Bool, true, false, List, [], ◌∷◌, Option, Some, None, Result, Ok, Err, nat_lt, refl, sym, ap, ◌∙◌, arith}
use Rattle.std.specs.Prelude.{cond, filter, max, ◌||◌, ◌==◌}
use Rattle.std.specs.Option.{option_map}
use Rattle.zone_image.specs.declared.Geometry.{Geometry}
use Rattle.zone_image.specs.Image.{Image, zone_at}
use Rattle.record_model.specs.FieldDecoding.{◌>>=◌}
use Rattle.log_model.specs.declared.selection.Chosen.{Chosen}
use Rattle.log_model.specs.declared.selection.Refusal.{Refusal}
use Rattle.log_model.specs.LogScan.{scan}
use Rattle.log_model.specs.LogSelection.{LogAt, add_log, chosen_of, counts, greatest_sequence, has_snapshot, log_of_zone, newer, newest, no_twin, select_among, select_log, selected_log, current_log, undamaged, twin}
use Rattle.log_roll.specs.declared.summary.LogSummary.{LogSummary}
use Rattle.log_roll.specs.Summaries.{summarised, summary_of, zone_summary}
use Rattle.log_roll.specs.Choosing.{choice, chosen_from, chosen_with, counted, greatest_of, newer_of, newest_of, sequence_of, twin_among, twin_refusal, unless_refused}

-- the logs of three zones
abbrev logs_of : Option LogAt → Option LogAt → Option LogAt → List LogAt
logs_of a b c = add_log a (add_log b (add_log c []))

-- a log as it is summarised
abbrev known : Option LogAt → Option LogSummary
known log = option_map summary_of log

-- the one or the other, summarised
one_of_two : (lower : Bool) (log other : LogAt) → known (cond lower (Some other) (Some log)) ≡ cond lower (Some (summary_of other)) (Some (summary_of log))
one_of_two true log other = refl
one_of_two false log other = refl

-- the newer of a log and one that may be there
newer_known : (log : LogAt) (other : Option LogAt) → known (newer log other) ≡ newer_of (Some (summary_of log)) (known other)
newer_known log None = refl
newer_known log (Some other) = one_of_two (nat_lt log.superblock.sequence other.superblock.sequence) log other

-- a log that may be passed over, and the newest behind it
newest_if : (here : Bool) (log : LogAt) (logs : List LogAt) → known (newest (cond here (log ∷ logs) logs)) ≡ newer_of (cond here (Some (summary_of log)) None) (known (newest logs))
newest_if true log logs = newer_known log (newest logs)
newest_if false log logs = refl

-- the newest of a zone's log and others
newest_front : (log : Option LogAt) (logs : List LogAt) → known (newest (filter counts (add_log log logs))) ≡ newer_of (counted (known log)) (known (newest (filter counts logs)))
newest_front None logs = refl
newest_front (Some log) logs = newest_if (counts log) log (filter counts logs)

-- with none behind
newer_alone : (log : Option LogSummary) → newer_of log None ≡ log
newer_alone None = refl
newer_alone (Some log) = refl

-- the newest of the three
newest_known : (a b c : Option LogAt) → known (newest (filter counts (logs_of a b c))) ≡ newest_of (known a) (known b) (known c)
newest_known a b c =
    newest_front a (add_log b (add_log c []))
    ∙ (ap (newer_of (counted (known a))) (newest_front b (add_log c []))
    ∙ ap (λ l. newer_of (counted (known a)) (newer_of (counted (known b)) l)) (newest_front c [] ∙ newer_alone (counted (known c))))

-- the highest sequence of a zone's log and others
greatest_front : (log : Option LogAt) (logs : List LogAt) → greatest_sequence (add_log log logs) ≡ max (sequence_of (known log)) (greatest_sequence logs)
greatest_front None logs = omega arith
greatest_front (Some log) logs = refl

-- with none behind
max_zero : (n : ℕ) → max n 0 ≡ n
max_zero n = omega arith

-- the highest sequence of the three
greatest_known : (a b c : Option LogAt) → greatest_sequence (logs_of a b c) ≡ greatest_of (known a) (known b) (known c)
greatest_known a b c =
    greatest_front a (add_log b (add_log c []))
    ∙ (ap (max (sequence_of (known a))) (greatest_front b (add_log c []))
    ∙ ap (λ n. max (sequence_of (known a)) (max (sequence_of (known b)) n)) (greatest_front c [] ∙ max_zero (sequence_of (known c))))

-- a test with nothing behind
two_tests : (same : Bool) (log : LogAt) → twin_refusal (known (cond (same || false) (Some log) None)) ≡ cond same (twin_refusal (Some (summary_of log))) None
two_tests true log = refl
two_tests false log = refl

-- two logs with none between
apart_tests : (same : Bool) (log : LogAt) → twin_refusal (known (cond (same || false) (Some log) None)) ≡ cond (same || false) (twin_refusal (Some (summary_of log))) None
apart_tests true log = refl
apart_tests false log = refl

-- three logs, by which are twins
three_tests : (first second third : Bool) (b c : LogAt) → twin_refusal (known (cond (first || false) (Some b) (cond (second || (third || false)) (Some c) None)))
    ≡ cond first (twin_refusal (Some (summary_of b))) (cond (second || third) (twin_refusal (Some (summary_of c))) None)
three_tests true second third b c = refl
three_tests false true third b c = refl
three_tests false false true b c = refl
three_tests false false false b c = refl

-- the refused twin of the three
twin_known : (a b c : Option LogAt) → twin_refusal (known (twin [] (logs_of a b c))) ≡ twin_among (known a) (known b) (known c)
twin_known None None None = refl
twin_known None None (Some c) = refl
twin_known None (Some b) None = refl
twin_known None (Some b) (Some c) = two_tests (b.superblock.sequence == c.superblock.sequence) c
twin_known (Some a) None None = refl
twin_known (Some a) None (Some c) = apart_tests (a.superblock.sequence == c.superblock.sequence) c
twin_known (Some a) (Some b) None = two_tests (a.superblock.sequence == b.superblock.sequence) b
twin_known (Some a) (Some b) (Some c) = three_tests (a.superblock.sequence == b.superblock.sequence) (a.superblock.sequence == c.superblock.sequence) (b.superblock.sequence == c.superblock.sequence) b c

-- what is chosen of the newest log
undamaged_known : (log : LogAt) (greatest : ℕ) (there : Result Bool Refusal)
    → (((there >>= (λ is. Ok log)) >>= (λ l. Ok (l, greatest))) >>= (λ l. Ok (chosen_of l))) ≡ chosen_with (summary_of log) greatest there
undamaged_known log greatest (Ok is) = refl
undamaged_known log greatest (Err refusal) = refl

-- the same where there may be none
current_known : (log : Option LogAt) (greatest : ℕ) → ((undamaged log >>= (λ l. Ok (l, greatest))) >>= (λ l. Ok (chosen_of l))) ≡ chosen_from greatest (known log)
current_known None greatest = refl
current_known (Some log) greatest = undamaged_known log greatest (has_snapshot log)

-- the selection among logs with this twin
selection_known : (found : List LogAt) (same : Option LogAt) → ((no_twin found same >>= (λ logs. current_log logs >>= (λ log. Ok (log, greatest_sequence logs)))) >>= (λ l. Ok (chosen_of l)))
    ≡ unless_refused (twin_refusal (known same)) (chosen_from (greatest_sequence found) (known (newest (filter counts found))))
selection_known found None = current_known (newest (filter counts found)) (greatest_sequence found)
selection_known found (Some log) = refl

-- the selection among the logs of three zones
choice_known : (a b c : Option LogAt) → (select_among (logs_of a b c) >>= (λ l. Ok (chosen_of l))) ≡ choice (known a) (known b) (known c)
choice_known a b c =
    selection_known (logs_of a b c) (twin [] (logs_of a b c))
    ∙ (ap (λ t. unless_refused t (chosen_from (greatest_sequence (logs_of a b c)) (known (newest (filter counts (logs_of a b c)))))) (twin_known a b c)
    ∙ (ap (λ n. unless_refused (twin_among (known a) (known b) (known c)) (chosen_from n (known (newest (filter counts (logs_of a b c)))))) (greatest_known a b c)
    ∙ ap (λ l. unless_refused (twin_among (known a) (known b) (known c)) (chosen_from (greatest_of (known a) (known b) (known c)) l)) (newest_known a b c)))

-- the choice by the zones, the first refusal first
abbrev pub choice_of : Result (Option LogSummary) Refusal → Result (Option LogSummary) Refusal → Result (Option LogSummary) Refusal → Result Chosen Refusal
choice_of a b c = a >>= (λ first. b >>= (λ second. c >>= (λ third. choice first second third)))

-- the selection by the zones' logs
zones_known : (a b c : Result (Option LogAt) Refusal)
    → (((a >>= (λ first. ((b >>= (λ second. ((c >>= (λ third. Ok (add_log third []))) >>= (λ others. Ok (add_log second others))))) >>= (λ others. Ok (add_log first others))))) >>= select_among) >>= (λ l. Ok (chosen_of l)))
    ≡ choice_of (summarised a) (summarised b) (summarised c)
zones_known (Err refusal) b c = refl
zones_known (Ok a) (Err refusal) c = refl
zones_known (Ok a) (Ok b) (Err refusal) = refl
zones_known (Ok a) (Ok b) (Ok c) = choice_known a b c

-- what the choice asks of a zone of an image
abbrev pub zone_of : Geometry → Image → ℕ → Result (Option LogSummary) Refusal
zone_of g i zone = zone_summary g zone (scan g.block (zone_at i zone).blocks)

-- the log of a zone of an image
abbrev found_in : Image → ℕ → Result (Option LogAt) Refusal
found_in i zone = let c = scan i.geometry.block (zone_at i zone).blocks in log_of_zone i.geometry zone c c.payloads c.end

-- the selected log of an image is the choice among what is asked of its zones
pub selected_is : (g : Geometry) (i : Image) → i.geometry ≡ g → selected_log i ≡ choice_of (zone_of g i 0) (zone_of g i 1) (zone_of g i 2)
unfolding select_log
selected_is g i shape =
    zones_known (found_in i 0) (found_in i 1) (found_in i 2)
    ∙ ap (λ s. choice_of (zone_of s i 0) (zone_of s i 1) (zone_of s i 2)) shape

-- the selected log, by what each zone is known to be
pub choice_by : (g : Geometry) (i : Image) → i.geometry ≡ g → (a b c : Result (Option LogSummary) Refusal) → a ≡ zone_of g i 0 → b ≡ zone_of g i 1 → c ≡ zone_of g i 2
    → choice_of a b c ≡ selected_log i
choice_by g i shape a b c first second third =
    ap (λ x. choice_of x b c) first
    ∙ (ap (λ x. choice_of (zone_of g i 0) x c) second
    ∙ (ap (λ x. choice_of (zone_of g i 0) (zone_of g i 1) x) third ∙ sym (selected_is g i shape)))

-- The selected log stays selected while it grows.
use Rattle.std.specs.Prelude.{◌≡◌, ◌≢◌, ℕ, suc, ◌+◌, ◌<◌, ◌≤◌, ⊤, Bool, true, false, cond, List, [], ◌∷◌, ◌++◌, length, Option, Some, None, Result, Ok, Err, ◌==◌, filter, refl}
use Rattle.std.proofs.Common.{◌∙◌, ap, sym, subst, ⊎_elim, inl, inr, arith}
use Rattle.std.proofs.lemmas.Bool.{cases_Bool}
use Rattle.std.proofs.lemmas.List.{append-nil}
use Rattle.std.proofs.lemmas.List.Elements.{filter-append}
use mathlib.Core.Logic.{◌⊎◌}
use Rattle.zone_image.specs.declared.Geometry.{Geometry}
use Rattle.record_model.specs.FieldDecoding.{◌>>=◌}
use Rattle.superblock_core.specs.Superblock.{superblock_of}
use Rattle.superblock_core.specs.declared.superblock.Superblock.{Superblock}
use Rattle.superblock_core.specs.declared.superblock.SbError.{SbError}
use Rattle.superblock_core.specs.declared.superblock.SbError.TheVariants.{Magic, Version, Flags, Text}
use Rattle.log_model.specs.declared.selection.Refusal.{Refusal}
use Rattle.log_model.specs.LogScan.{Scan, ScanEnd}
use Rattle.log_model.specs.LogScan.ScanEnd.{Clean, Torn, Bad}
use Rattle.log_model.specs.ScanLaws.{is_bad}
use Rattle.log_model.specs.LogSelection.{LogAt, fits_device, log_with, log_of_zone, logs_from, add_log, has_snapshot, snapshot_in, decides, counts, newer, newest, undamaged, current_log, twin, greatest_sequence}
use Rattle.log_model.specs.LogChangeLaws.{SelectedLogMayGrow}
use Rattle.log_model.proofs.SelectionLaws.{counted_stays, uncounted_goes, undamaged_is, selected_when_newest, newer_cases, newer_is_other, newer_is_first, newest_without, newest_sequence, greatest_append, sequence_of, some_is}
use Rattle.log_model.proofs.SelectedLog.{Selected, LogsAround, selected_from, selected_is, logs_joined, logs_split, went_on, log_zone, ok_is}
use Rattle.log_model.proofs.TwinLaws.{replaced_behind}

-- the log with another scan
abbrev pub rescanned : LogAt → Scan → LogAt
rescanned log grown = record log { scan = grown }

-- what a zone begins with, with another scan
rescanned_result : Scan → Result (Option LogAt) Refusal → Result (Option LogAt) Refusal
rescanned_result grown (Ok (Some log)) = Ok (Some (rescanned log grown))
rescanned_result grown (Ok None) = Ok None
rescanned_result grown (Err why) = Err why

-- a superblock that fits the device fits it still
fitting_again : (fits : Bool) (zone : ℕ) (s : Superblock) (c grown : Scan) (why : Refusal) (log : LogAt)
    → cond fits (Ok (Some (record { zone = zone; superblock = s; scan = c }))) (Err why) ≡ Ok (Some log)
    → cond fits (Ok (Some (record { zone = zone; superblock = s; scan = grown }))) (Err why) ≡ Ok (Some (rescanned log grown))
unfolding rescanned_result
fitting_again true zone s c grown why log h = ap (rescanned_result grown) h
fitting_again false zone s c grown why log h = cc

-- a first payload is read again
read_again : (g : Geometry) (zone : ℕ) (c grown : Scan) (payload : List ℕ) (r : Result Superblock SbError) (log : LogAt)
    → log_with g zone c payload r ≡ Ok (Some log) → log_with g zone grown payload r ≡ Ok (Some (rescanned log grown))
read_again g zone c grown payload (Err Magic) log h = cc
read_again g zone c grown payload (Err (Version found)) log h = cc
read_again g zone c grown payload (Err (Flags found)) log h = cc
read_again g zone c grown payload (Err (Text at)) log h = cc
read_again g zone c grown payload (Ok s) log h = fitting_again (fits_device g s) zone s c grown _ log h

-- the same of a first payload of any length
sized_again : (sized : Bool) (g : Geometry) (zone : ℕ) (c grown : Scan) (payload : List ℕ) (r : Result Superblock SbError) (log : LogAt)
    → cond sized (log_with g zone c payload r) (Ok None) ≡ Ok (Some log) → cond sized (log_with g zone grown payload r) (Ok None) ≡ Ok (Some (rescanned log grown))
sized_again true g zone c grown payload r log h = read_again g zone c grown payload r log h
sized_again false g zone c grown payload r log h = cc

-- a zone with more payloads behind begins with the same log
begins_again : (g : Geometry) (zone : ℕ) (c grown : Scan) (payloads more : List (ℕ × List ℕ)) (end last : ScanEnd) (log : LogAt)
    → log_of_zone g zone c payloads end ≡ Ok (Some log) → log_of_zone g zone grown (payloads ++ more) last ≡ Ok (Some (rescanned log grown))
begins_again g zone c grown [] more Clean last log h = cc
begins_again g zone c grown [] more (Torn block) last log h = cc
begins_again g zone c grown [] more (Bad block len stored computed) last log h = cc
begins_again g zone c grown (p ∷ ps) more end last log h = sized_again (length p.1 == 512) g zone c grown p.1 (superblock_of p.1) log h

-- behind a snapshot more payloads may follow, and a torn end
snapshot_stays : (zone : ℕ) (payloads more : List (ℕ × List ℕ)) (end last : ScanEnd) → snapshot_in zone end payloads ≡ Ok true → is_bad last ≡ false
    → snapshot_in zone last (payloads ++ more) ≡ Ok true
snapshot_stays zone [] more Clean last h ok = cc
snapshot_stays zone [] more (Torn block) last h ok = cc
snapshot_stays zone (s ∷ []) more Clean last h ok = cc
snapshot_stays zone (s ∷ []) more (Torn block) last h ok = cc
snapshot_stays zone payloads more (Bad block len stored computed) last h ok = cc
snapshot_stays zone (s ∷ p ∷ ps) more end (Bad block len stored computed) h ok = cc
snapshot_stays zone (s ∷ p ∷ ps) more Clean Clean h ok = h
snapshot_stays zone (s ∷ p ∷ ps) more Clean (Torn block) h ok = h
snapshot_stays zone (s ∷ p ∷ ps) more (Torn block) Clean h ok = h
snapshot_stays zone (s ∷ p ∷ ps) more (Torn block) (Torn other) h ok = h

-- each log has P
abbrev pub Each : (LogAt → Type 0) → List LogAt → Type 0
Each P [] = ⊤
Each P (log ∷ logs) = P log × Each P logs

-- of joined lists
each_append : (P : LogAt → Type 0) (xs ys : List LogAt) → Each P xs → Each P ys → Each P (xs ++ ys)
each_append P [] ys h g = g
each_append P (x ∷ xs) ys h g = (h.0, each_append P xs ys h.1 g)

-- of what a filter keeps
each_kept : (b : Bool) (P : LogAt → Type 0) (log : LogAt) (logs : List LogAt) → P log → Each P logs → Each P (cond b (log ∷ logs) logs)
each_kept true P log logs h g = (h, g)
each_kept false P log logs h g = g

-- of the logs that count
pub each_filter : (P : LogAt → Type 0) (logs : List LogAt) → Each P logs → Each P (filter counts logs)
each_filter P [] h = h
each_filter P (log ∷ logs) h = each_kept (counts log) P log (filter counts logs) h.0 (each_filter P logs h.1)

-- a log that is kept counts
counted_kept : (b : Bool) (log : LogAt) (logs : List LogAt) → counts log ≡ b → Each (λ l. counts l ≡ true) logs → Each (λ l. counts l ≡ true) (cond b (log ∷ logs) logs)
counted_kept true log logs h g = (h, g)
counted_kept false log logs h g = g

-- the logs that count do
each_counts : (logs : List LogAt) → Each (λ l. counts l ≡ true) (filter counts logs)
each_counts [] = tt
each_counts (log ∷ logs) = counted_kept (counts log) log (filter counts logs) refl (each_counts logs)

-- the newest of them has P
pub newest_has : (P : LogAt → Type 0) (logs : List LogAt) (log : LogAt) → Each P logs → newest logs ≡ Some log → P log
newest_has P [] log h is = cc
newest_has P (l ∷ ls) log h is =
    ⊎_elim (λ later. newest_has P ls log h.1 later.0) (λ this. subst P this.0 h.0) (newer_cases l (newest ls) log is)

-- a log in front of others
each_added : (o : Option LogAt) (logs : List LogAt) (n : ℕ) → ((log : LogAt) → o ≡ Some log → log.zone ≢ n) → Each (λ l. l.zone ≢ n) logs → Each (λ l. l.zone ≢ n) (add_log o logs)
each_added None logs n h g = g
each_added (Some log) logs n h g = (h log refl, g)

-- the newest of logs of other zones isn't this zone's
not_among : (front back : List LogAt) (log : LogAt) (n : ℕ) → Each (λ l. l.zone ≢ n) front → Each (λ l. l.zone ≢ n) back → log.zone ≡ n
    → newest (filter counts (front ++ back)) ≡ Some log → ⊥
not_among front back log n fronts backs at is =
    newest_has (λ l. l.zone ≢ n) (filter counts (front ++ back)) log (each_filter (λ l. l.zone ≢ n) (front ++ back) (each_append (λ l. l.zone ≢ n) front back fronts backs)) is at

-- the logs of zones that all have other numbers
away_from : (n zone : ℕ) (g : Geometry) (scans : List Scan) (logs : List LogAt) → logs_from g zone scans ≡ Ok logs
    → ((k : ℕ) → k < length scans → zone + k ≢ n) → Each (λ l. l.zone ≢ n) logs
away_from n zone g [] logs h other = subst (Each (λ l. l.zone ≢ n)) (ok_is h) tt
away_from n zone g (c ∷ cs) logs h other =
    let first = went_on (log_of_zone g zone c c.payloads c.end) (λ log. logs_from g (zone + 1) cs >>= (λ others. Ok (add_log log others))) logs h in
    let others = went_on (logs_from g (zone + 1) cs) (λ os. Ok (add_log first.0 os)) logs first.2 in
    let behind = away_from n (zone + 1) g cs others.0 others.1 (λ k less same. other (suc k) (omega arith) (omega arith)) in
    subst (Each (λ l. l.zone ≢ n)) (ok_is others.2)
    (each_added first.0 others.0 n (λ log is same. other 0 (omega arith) (omega (arith, log_zone g zone c c.payloads c.end log (first.1 ∙ ap Ok is)))) behind)

-- the selected log of a zone is the log of that zone
selected_is_here : (front back : List LogAt) (here : Option LogAt) (log : LogAt) (n : ℕ) → Each (λ l. l.zone ≢ n) front → Each (λ l. l.zone ≢ n) back → log.zone ≡ n
    → current_log (front ++ add_log here back) ≡ Ok log → here ≡ Some log
selected_is_here front back None log n fronts backs at is = absurd (not_among front back log n fronts backs at (undamaged_is (newest (filter counts (front ++ back))) log is))
selected_is_here front back (Some x) log n fronts backs at is =
    let newest_is : newest (filter counts (front ++ x ∷ back)) ≡ Some log = undamaged_is (newest (filter counts (front ++ x ∷ back))) log is in
    ⊎_elim
    (λ counted.
    ⊎_elim (λ same. ap Some same)
    (λ without. absurd (not_among front back log n fronts backs at (ap newest (filter-append counts front back) ∙ without)))
    (newest_without (filter counts front) (filter counts back) x log (sym (ap newest (counted_stays front back x counted)) ∙ newest_is)))
    (λ uncounted. absurd (not_among front back log n fronts backs at (sym (ap newest (uncounted_goes front back x uncounted)) ∙ newest_is)))
    (cases_Bool (counts x))

-- the newest log is this one, which may be replaced by one of its sequence, or it is the newest without it
newest_replaced : (before after : List LogAt) (log it : LogAt) → it.superblock.sequence ≡ log.superblock.sequence → newest (before ++ log ∷ after) ≡ Some log
    → (newest (before ++ it ∷ after) ≡ Some it) ⊎ (newest (before ++ after) ≡ Some log)
newest_replaced [] after log it same is =
    ⊎_elim (λ later. inr later.0) (λ this. inl (newer_is_first it (newest after) (omega arith))) (newer_cases log (newest after) log is)
newest_replaced (b ∷ before) after log it same is =
    ⊎_elim
    (λ later.
    ⊎_elim (λ this. inl (ap (newer b) this ∙ newer_is_other b it (omega arith))) (λ without. inr (ap (newer b) without ∙ newer_is_other b log later.1))
    (newest_replaced before after log it same later.0))
    (λ first.
    let fewer : sequence_of (newest (before ++ after)) ≤ b.superblock.sequence =
    omega (arith, newest_sequence (before ++ after), newest_sequence (before ++ log ∷ after), greatest_append before after, greatest_append before (log ∷ after)) in
    inr (newer_is_first b (newest (before ++ after)) fewer ∙ ap Some first.0))
    (newer_cases b (newest (before ++ log ∷ after)) log is)

-- a selected log has its snapshot
pub selected_has_snapshot : (logs : List LogAt) (log : LogAt) → current_log logs ≡ Ok log → has_snapshot log ≡ Ok true
selected_has_snapshot logs log is =
    let newest_is : newest (filter counts logs) ≡ Some log = undamaged_is (newest (filter counts logs)) log is in
    let counted : counts log ≡ true = newest_has (λ l. counts l ≡ true) (filter counts logs) log (each_counts logs) newest_is in
    let there = went_on (has_snapshot log) (λ there. Ok log) log (sym (ap undamaged newest_is) ∙ is) in
    there.1 ∙ ap Ok (sym (ap decides there.1) ∙ counted)

-- the selected log, grown, is selected
grown_is_current : (front back : List LogAt) (log : LogAt) (grown : Scan) (more : List (ℕ × List ℕ)) (n : ℕ) → Each (λ l. l.zone ≢ n) front → Each (λ l. l.zone ≢ n) back → log.zone ≡ n
    → log.scan.payloads ++ more ≡ grown.payloads → is_bad grown.end ≡ false → current_log (front ++ log ∷ back) ≡ Ok log
    → current_log (front ++ rescanned log grown ∷ back) ≡ Ok (rescanned log grown)
grown_is_current front back log grown more n fronts backs at longer ok is =
    let it : LogAt = rescanned log grown in
    let newest_is : newest (filter counts (front ++ log ∷ back)) ≡ Some log = undamaged_is (newest (filter counts (front ++ log ∷ back))) log is in
    let there : has_snapshot log ≡ Ok true = selected_has_snapshot (front ++ log ∷ back) log is in
    let still : has_snapshot it ≡ Ok true =
    ap (snapshot_in log.zone grown.end) (sym longer) ∙ snapshot_stays log.zone log.scan.payloads more log.scan.end grown.end there ok in
    let split : newest (filter counts front ++ log ∷ filter counts back) ≡ Some log = sym (ap newest (counted_stays front back log (ap decides there))) ∙ newest_is in
    let found : newest (filter counts front ++ it ∷ filter counts back) ≡ Some it =
    ⊎_elim (λ e. e) (λ without. absurd (not_among front back log n fronts backs at (ap newest (filter-append counts front back) ∙ without)))
    (newest_replaced (filter counts front) (filter counts back) log it refl split) in
    selected_when_newest (newest (filter counts (front ++ it ∷ back))) it (ap newest (counted_stays front back it (ap decides still)) ∙ found) still

-- the scan of a zone's log is the zone's
pub own_scan : (g : Geometry) (zone : ℕ) (c : Scan) (payloads : List (ℕ × List ℕ)) (end : ScanEnd) (log : LogAt) → log_of_zone g zone c payloads end ≡ Ok (Some log) → log.scan ≡ c
own_scan g zone c payloads end log h =
    let again : log_of_zone g zone c (payloads ++ []) end ≡ Ok (Some (rescanned log c)) = begins_again g zone c c payloads [] end end log h in
    let both : Some log ≡ Some (rescanned log c) = ok_is (sym h ∙ (ap (λ ps. log_of_zone g zone c ps end) (sym (append-nil payloads)) ∙ again)) in
    ap (λ l. l.scan) (some_is both)

pub selected_log_may_grow : SelectedLogMayGrow
selected_log_may_grow g before after c grown log greatest selects at longer ok =
    let n : ℕ = length before in
    let old : Selected g (before ++ c ∷ after) log greatest = selected_from g (before ++ c ∷ after) log greatest selects in
    let split = logs_split g 0 n before after c old.logs (omega arith) old.found in
    let around : LogsAround g 0 n before after split.0 old.logs = split.2 in
    let fronts : Each (λ l. l.zone ≢ n) around.front = away_from n 0 g before around.front around.fronts (λ k less same. omega arith) in
    let backs : Each (λ l. l.zone ≢ n) around.back = away_from n (n + 1) g after around.back around.backs (λ k less same. omega arith) in
    let here : split.0 ≡ Some log = selected_is_here around.front around.back split.0 log n fronts backs at (ap current_log around.all ∙ old.current) in
    let begins : log_of_zone g n c c.payloads c.end ≡ Ok (Some log) = split.1 ∙ ap Ok here in
    let all : around.front ++ log ∷ around.back ≡ old.logs = ap (λ o. around.front ++ add_log o around.back) (sym here) ∙ around.all in
    let own : log.scan.payloads ++ longer.0 ≡ grown.payloads = ap (λ s. s.payloads ++ longer.0) (own_scan g n c c.payloads c.end log begins) ∙ longer.1 in
    let again : log_of_zone g n grown grown.payloads grown.end ≡ Ok (Some (rescanned log grown)) =
    ap (λ ps. log_of_zone g n grown ps grown.end) (sym longer.1) ∙ begins_again g n c grown c.payloads longer.0 c.end grown.end log begins in
    selected_is g (before ++ grown ∷ after) (rescanned log grown) greatest (record {
      logs = around.front ++ rescanned log grown ∷ around.back;
      found = logs_joined g 0 n before after grown (Some (rescanned log grown)) around.front around.back (omega arith) around.fronts again around.backs;
      apart = replaced_behind [] around.front around.back log (rescanned log grown) refl (ap (twin []) all ∙ old.apart);
      current = grown_is_current around.front around.back log grown longer.0 n fronts backs at own ok (ap current_log all ∙ old.current);
      highest = omega (arith, old.highest, ap greatest_sequence all, greatest_append around.front (log ∷ around.back), greatest_append around.front (rescanned log grown ∷ around.back));
    })

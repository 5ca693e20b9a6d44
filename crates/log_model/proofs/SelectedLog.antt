-- The selection of a log taken apart: the logs of the zones, and the one among them.
use Rattle.std.specs.Prelude.{◌≡◌, ℕ, ◌+◌, Bool, true, false, cond, List, [], ◌∷◌, ◌++◌, length, Option, Some, None, Result, Ok, Err, ◌==◌, refl}
use Rattle.std.proofs.Common.{◌∙◌, ap, sym, subst, arith}
use Rattle.zone_image.specs.declared.Geometry.{Geometry}
use Rattle.record_model.specs.FieldDecoding.{◌>>=◌}
use Rattle.superblock_core.specs.Superblock.{superblock_of}
use Rattle.superblock_core.specs.declared.superblock.Superblock.{Superblock}
use Rattle.superblock_core.specs.declared.superblock.SbError.{SbError}
use Rattle.superblock_core.specs.declared.superblock.SbError.TheVariants.{Magic, Version, Flags, Text}
use Rattle.log_model.specs.declared.selection.Refusal.{Refusal}
use Rattle.log_model.specs.LogScan.{Scan, ScanEnd}
use Rattle.log_model.specs.LogScan.ScanEnd.{Clean, Torn, Bad}
use Rattle.log_model.specs.LogSelection.{LogAt, fits_device, log_with, log_of_zone, logs_from, add_log, twin, no_twin, current_log, greatest_sequence, select_among, select_log}

-- what stands in an Ok
pub ok_is : {A E : Type 0} {x y : A} → ◌≡◌ {A = Result A E} (Ok x) (Ok y) → x ≡ y
ok_is h = cc

-- a result that went on to an Ok was one
pub went_on : {A B E : Type 0} → (r : Result A E) (f : A → Result B E) (y : B) → (r >>= f) ≡ Ok y → (x : A) × (r ≡ Ok x) × (f x ≡ Ok y)
went_on (Ok x) f y h = (x, refl, h)
went_on (Err e) f y h = cc

-- a selection is the logs of the zones, no two of one sequence, and the current one among them
pub record Selected (g : Geometry) (scans : List Scan) (log : LogAt) (greatest : ℕ) : Type 0 where
  pub logs : List LogAt
  pub found : logs_from g 0 scans ≡ Ok logs
  pub apart : twin [] logs ≡ None
  pub current : current_log logs ≡ Ok log
  pub highest : greatest_sequence logs ≡ greatest

-- logs without a twin are given on
no_twin_is : (found logs : List LogAt) (o : Option LogAt) → no_twin found o ≡ Ok logs → (o ≡ None) × (found ≡ logs)
no_twin_is found logs None h = (refl, ok_is h)
no_twin_is found logs (Some log) h = cc

pub selected_from : (g : Geometry) (scans : List Scan) (log : LogAt) (greatest : ℕ) → select_log g scans ≡ Ok (log, greatest) → Selected g scans log greatest
unfolding select_log
selected_from g scans log greatest h =
    let a = went_on (logs_from g 0 scans) select_among (log, greatest) h in
    let b = went_on (no_twin a.0 (twin [] a.0)) _ (log, greatest) a.2 in
    let c = went_on (current_log b.0) _ (log, greatest) b.2 in
    let same = no_twin_is a.0 b.0 (twin [] a.0) b.1 in
    let pair : (c.0, greatest_sequence b.0) ≡ (log, greatest) = ok_is c.2 in
    record {
      logs = a.0;
      found = a.1;
      apart = same.0;
      current = ap current_log same.1 ∙ (c.1 ∙ ap (λ p. Ok p.0) pair);
      highest = ap greatest_sequence same.1 ∙ ap (λ p. p.1) pair;
    }

pub selected_is : (g : Geometry) (scans : List Scan) (log : LogAt) (greatest : ℕ) → Selected g scans log greatest → select_log g scans ≡ Ok (log, greatest)
unfolding select_log
selected_is g scans log greatest s =
    ap (λ found. found >>= select_among) s.found
    ∙ (ap (λ t. no_twin s.logs t >>= (λ kept. current_log kept >>= (λ it. Ok (it, greatest_sequence kept)))) s.apart
    ∙ (ap (λ current. current >>= (λ it. Ok (it, greatest_sequence s.logs))) s.current
    ∙ ap (λ n. Ok (log, n)) s.highest))

-- the logs of zones, about one of them
pub record LogsAround (g : Geometry) (zone n : ℕ) (before after : List Scan) (here : Option LogAt) (logs : List LogAt) : Type 0 where
  pub front : List LogAt
  pub back : List LogAt
  pub fronts : logs_from g zone before ≡ Ok front
  pub backs : logs_from g (n + 1) after ≡ Ok back
  pub all : front ++ add_log here back ≡ logs

-- a log in front of others
add_append : (o : Option LogAt) (xs ys : List LogAt) → add_log o (xs ++ ys) ≡ add_log o xs ++ ys
add_append None xs ys = refl
add_append (Some log) xs ys = refl

-- with another log in the middle
pub logs_joined : (g : Geometry) (zone n : ℕ) (before after : List Scan) (c : Scan) (here : Option LogAt) (front back : List LogAt) → n ≡ zone + length before
    → logs_from g zone before ≡ Ok front → log_of_zone g n c c.payloads c.end ≡ Ok here → logs_from g (n + 1) after ≡ Ok back
    → logs_from g zone (before ++ c ∷ after) ≡ Ok (front ++ add_log here back)
logs_joined g zone n [] after c here front back is fronts it backs =
    let same : zone ≡ n = omega arith in
    ap (λ z. log_of_zone g z c c.payloads c.end >>= (λ first. logs_from g (z + 1) after >>= (λ others. Ok (add_log first others)))) same
    ∙ (ap (λ r. r >>= (λ first. logs_from g (n + 1) after >>= (λ others. Ok (add_log first others)))) it
    ∙ (ap (λ r. r >>= (λ others. Ok (add_log here others))) backs
    ∙ ap (λ fs. Ok (fs ++ add_log here back)) (ok_is fronts)))
logs_joined g zone n (b ∷ before) after c here front back is fronts it backs =
    let first = went_on (log_of_zone g zone b b.payloads b.end) _ front fronts in
    let others = went_on (logs_from g (zone + 1) before) _ front first.2 in
    let next : n ≡ (zone + 1) + length before = omega arith in
    ap (λ r. r >>= (λ log. logs_from g (zone + 1) (before ++ c ∷ after) >>= (λ os. Ok (add_log log os)))) first.1
    ∙ (ap (λ r. r >>= (λ os. Ok (add_log first.0 os))) (logs_joined g (zone + 1) n before after c here others.0 back next others.1 it backs)
    ∙ (ap Ok (add_append first.0 others.0 (add_log here back)) ∙ ap (λ fs. Ok (fs ++ add_log here back)) (ok_is others.2)))

-- the logs of zones taken apart about one of them
pub logs_split : (g : Geometry) (zone n : ℕ) (before after : List Scan) (c : Scan) (logs : List LogAt) → n ≡ zone + length before
    → logs_from g zone (before ++ c ∷ after) ≡ Ok logs
    → (here : Option LogAt) × (log_of_zone g n c c.payloads c.end ≡ Ok here) × LogsAround g zone n before after here logs
logs_split g zone n [] after c logs is h =
    let same : zone ≡ n = omega arith in
    let moved : (log_of_zone g n c c.payloads c.end >>= (λ log. logs_from g (n + 1) after >>= (λ os. Ok (add_log log os)))) ≡ Ok logs =
    subst (λ z. (log_of_zone g z c c.payloads c.end >>= (λ log. logs_from g (z + 1) after >>= (λ os. Ok (add_log log os)))) ≡ Ok logs) same h in
    let first = went_on (log_of_zone g n c c.payloads c.end) _ logs moved in
    let others = went_on (logs_from g (n + 1) after) _ logs first.2 in
    (first.0, first.1, record { front = []; back = others.0; fronts = refl; backs = others.1; all = ok_is others.2 })
logs_split g zone n (b ∷ before) after c logs is h =
    let first = went_on (log_of_zone g zone b b.payloads b.end) _ logs h in
    let others = went_on (logs_from g (zone + 1) (before ++ c ∷ after)) _ logs first.2 in
    let next : n ≡ (zone + 1) + length before = omega arith in
    let rest = logs_split g (zone + 1) n before after c others.0 next others.1 in (
      rest.0,
      rest.1,
      record {
        front = add_log first.0 rest.2.front;
        back = rest.2.back;
        fronts =
            ap (λ r. r >>= (λ log. logs_from g (zone + 1) before >>= (λ os. Ok (add_log log os)))) first.1
            ∙ ap (λ r. r >>= (λ os. Ok (add_log first.0 os))) rest.2.fronts;
        backs = rest.2.backs;
        all = sym (add_append first.0 rest.2.front (add_log rest.0 rest.2.back)) ∙ (ap (add_log first.0) rest.2.all ∙ ok_is others.2);
      },
    )

-- the zone of a log that is there
zone_of_result : Result (Option LogAt) Refusal → ℕ → ℕ
zone_of_result (Ok (Some log)) zone = log.zone
zone_of_result (Ok None) zone = zone
zone_of_result (Err why) zone = zone

-- a log is that of its zone
fitting_zone : (fits : Bool) (zone : ℕ) (s : Superblock) (c : Scan) (why : Refusal) (log : LogAt)
    → cond fits (Ok (Some (record { zone = zone; superblock = s; scan = c }))) (Err why) ≡ Ok (Some log) → log.zone ≡ zone
unfolding zone_of_result
fitting_zone true zone s c why log h = ap (λ r. zone_of_result r zone) (sym h)
fitting_zone false zone s c why log h = cc

-- a log that is read from a first payload is that of its zone
read_zone : (g : Geometry) (zone : ℕ) (c : Scan) (payload : List ℕ) (r : Result Superblock SbError) (log : LogAt)
    → log_with g zone c payload r ≡ Ok (Some log) → log.zone ≡ zone
read_zone g zone c payload (Err Magic) log h = cc
read_zone g zone c payload (Err (Version found)) log h = cc
read_zone g zone c payload (Err (Flags found)) log h = cc
read_zone g zone c payload (Err (Text at)) log h = cc
read_zone g zone c payload (Ok s) log h = fitting_zone (fits_device g s) zone s c _ log h

-- the same of a first payload of any length
sized_zone : (sized : Bool) (g : Geometry) (zone : ℕ) (c : Scan) (payload : List ℕ) (r : Result Superblock SbError) (log : LogAt)
    → cond sized (log_with g zone c payload r) (Ok None) ≡ Ok (Some log) → log.zone ≡ zone
sized_zone true g zone c payload r log h = read_zone g zone c payload r log h
sized_zone false g zone c payload r log h = cc

-- the log of a zone is that of its zone
pub log_zone : (g : Geometry) (zone : ℕ) (c : Scan) (payloads : List (ℕ × List ℕ)) (end : ScanEnd) (log : LogAt)
    → log_of_zone g zone c payloads end ≡ Ok (Some log) → log.zone ≡ zone
log_zone g zone c [] Clean log h = cc
log_zone g zone c [] (Torn block) log h = cc
log_zone g zone c [] (Bad block len stored computed) log h = cc
log_zone g zone c (p ∷ ps) end log h = sized_zone (length p.1 == 512) g zone c p.1 (superblock_of p.1) log h

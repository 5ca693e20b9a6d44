-- A reset of one metadata zone after another: the selected log stays until its own zone is reset, and then none counts.
use Rattle.std.specs.Prelude.{◌≡◌, ℕ, zero, suc, ◌+◌, ◌<◌, ◌≤◌, ◌⊎◌, Bool, true, false, cond, List, [], ◌∷◌, ◌++◌, length, Option, Some, None, Result, Ok, Err, ◌==◌, filter, refl}
use Rattle.std.proofs.Common.{◌∙◌, ap, sym, subst, inl, inr, ⊎_elim, arith}
use Rattle.std.proofs.lemmas.Bool.{cases_eq, ltb-false}
use Rattle.zone_image.specs.declared.Geometry.{Geometry}
use Rattle.zone_image.specs.Image.{Image, zone_at}
use Rattle.record_model.specs.FieldDecoding.{◌>>=◌}
use Rattle.superblock_core.specs.Superblock.{superblock_of}
use Rattle.superblock_core.specs.declared.superblock.Superblock.{Superblock}
use Rattle.superblock_core.specs.declared.superblock.SbError.{SbError}
use Rattle.superblock_core.specs.declared.superblock.SbError.TheVariants.{Magic, Version, Flags, Text}
use Rattle.log_model.specs.declared.selection.Refusal.{Refusal}
use Rattle.log_model.specs.declared.selection.Refusal.TheVariants.{NoFileSystem}
use Rattle.log_model.specs.LogScan.{Scan, ScanEnd}
use Rattle.log_model.specs.LogScan.ScanEnd.{Clean, Torn, Bad}
use Rattle.log_model.specs.LogSelection.{LogAt, fits_device, log_with, log_of_zone, logs_from, add_log, twin, no_twin, counts, newest, undamaged, current_log, greatest_sequence, select_among, select_log, selected_log, scans_of, chosen_of}
use Rattle.log_model.specs.Format.{first_of, is_below, sequence_at, sequence_in, sequence_of}
use Rattle.log_model.specs.LogChangeLaws.{no_records}
use Rattle.log_model.specs.AppendLaws.{scan_at, IsSelectedOn, DiffersIn}
use Rattle.log_model.proofs.NewLogLaws.{other_may_be_reset}
use Rattle.log_model.proofs.AppendLaws.{scans_differ}
use Rattle.log_model.proofs.SelectionLaws.{undamaged_is, some_is}
use Rattle.log_model.proofs.SelectedLog.{Selected, LogsAround, selected_from, went_on, log_zone, logs_joined, logs_split, ok_is}
use Rattle.log_model.proofs.TwinLaws.{fewer_have_no_twin}
use Rattle.log_model.proofs.GrowingLog.{Each, each_filter, newest_has}
use Rattle.log_roll.proofs.LoneLogs.{empty_scan}
use Rattle.log_roll.proofs.SelectedFacts.{each_with}
use Rattle.log_roll.proofs.PassedOver.{fewer_passed_over, none_kept, others_passed_over}

-- a fitting superblock's sequence
fitting_sequence : (fits : Bool) (zone : ℕ) (s : Superblock) (c : Scan) (why : Refusal) (log : LogAt)
    → cond {A = Result (Option LogAt) Refusal} fits (Ok (Some (record { zone = zone; superblock = s; scan = c }))) (Err why) ≡ Ok (Some log) → s.sequence ≡ log.superblock.sequence
fitting_sequence true zone s c why log h = ap (λ (l : LogAt). l.superblock.sequence) (some_is (ok_is h))
fitting_sequence false zone s c why log h = cc

read_sequence : (g : Geometry) (zone : ℕ) (c : Scan) (payload : List ℕ) (r : Result Superblock SbError) (log : LogAt) → log_with g zone c payload r ≡ Ok (Some log)
    → sequence_of r ≡ Some log.superblock.sequence
read_sequence g zone c payload (Err Magic) log h = cc
read_sequence g zone c payload (Err (Version found)) log h = cc
read_sequence g zone c payload (Err (Flags found)) log h = cc
read_sequence g zone c payload (Err (Text at)) log h = cc
read_sequence g zone c payload (Ok s) log h = ap Some (fitting_sequence (fits_device g s) zone s c _ log h)

sized_sequence : (sized : Bool) (g : Geometry) (zone : ℕ) (c : Scan) (payload : List ℕ) (r : Result Superblock SbError) (log : LogAt)
    → cond sized (log_with g zone c payload r) (Ok None) ≡ Ok (Some log) → cond sized (sequence_of r) None ≡ Some log.superblock.sequence
sized_sequence true g zone c payload r log h = read_sequence g zone c payload r log h
sized_sequence false g zone c payload r log h = cc

-- the sequence with which a zone of a log begins is the log's
log_sequence : (g : Geometry) (zone : ℕ) (c : Scan) (payloads : List (ℕ × List ℕ)) (end : ScanEnd) (log : LogAt) → log_of_zone g zone c payloads end ≡ Ok (Some log)
    → sequence_in (first_of payloads) ≡ Some log.superblock.sequence
log_sequence g zone c [] Clean log h = cc
log_sequence g zone c [] (Torn block) log h = cc
log_sequence g zone c [] (Bad block len stored computed) log h = cc
log_sequence g zone c (p ∷ ps) end log h = sized_sequence (length p.1 == 512) g zone c p.1 (superblock_of p.1) log h

-- a metadata zone of the image begins with the log
record IsLogOf (x : Image) (log : LogAt) : Type 0 where
  metadata : log.zone < 3
  begins : log_of_zone x.geometry log.zone (scan_at x log.zone) (scan_at x log.zone).payloads (scan_at x log.zone).end ≡ Ok (Some log)

-- of the logs of scans: that of the first, and those of the others
each_step : (P : LogAt → Type 0) (g : Geometry) (zone : ℕ) (c : Scan) (cs : List Scan) (logs : List LogAt) → logs_from g zone (c ∷ cs) ≡ Ok logs
    → ((log : LogAt) → log_of_zone g zone c c.payloads c.end ≡ Ok (Some log) → P log) → ((others : List LogAt) → logs_from g (zone + 1) cs ≡ Ok others → Each P others) → Each P logs
each_step P g zone c cs logs h here there =
    let first = went_on (log_of_zone g zone c c.payloads c.end) (λ log. logs_from g (zone + 1) cs >>= (λ others. Ok (add_log log others))) logs h in
    let others = went_on (logs_from g (zone + 1) cs) (λ os. Ok (add_log first.0 os)) logs first.2 in
    subst (Each P) (ok_is others.2) (each_with P first.0 others.0 (λ log is. here log (first.1 ∙ ap Ok is)) (there others.0 others.1))

is_log_of : (x : Image) (n : ℕ) (log : LogAt) → n < 3 → log_of_zone x.geometry n (scan_at x n) (scan_at x n).payloads (scan_at x n).end ≡ Ok (Some log) → IsLogOf x log
is_log_of x n log below h =
    let at : log.zone ≡ n = log_zone x.geometry n (scan_at x n) (scan_at x n).payloads (scan_at x n).end log h in
    record {
      metadata = omega (arith, at, below);
      begins = subst (λ m. log_of_zone x.geometry m (scan_at x m) (scan_at x m).payloads (scan_at x m).end ≡ Ok (Some log)) (sym at) h;
    }

-- the logs of an image are those of its metadata zones
each_is : (x : Image) (logs : List LogAt) → logs_from x.geometry 0 (scans_of x) ≡ Ok logs → Each (IsLogOf x) logs
each_is x logs h =
    each_step (IsLogOf x) x.geometry 0 (scan_at x 0) (scan_at x 1 ∷ scan_at x 2 ∷ []) logs h (λ log is. is_log_of x 0 log (omega arith) is)
    (λ two behind. each_step (IsLogOf x) x.geometry 1 (scan_at x 1) (scan_at x 2 ∷ []) two behind (λ log is. is_log_of x 1 log (omega arith) is)
    (λ one last. each_step (IsLogOf x) x.geometry 2 (scan_at x 2) [] one last (λ log is. is_log_of x 2 log (omega arith) is)
    (λ none end. subst (Each (IsLogOf x)) (ok_is end) tt)))

-- scans about that of a zone, which is empty on the second image
record Around (zone : ℕ) (x y : Image) : Type 0 where
  before : List Scan
  after : List Scan
  at : length before ≡ zone
  was : scans_of x ≡ before ++ scan_at x zone ∷ after
  is : scans_of y ≡ before ++ no_records ∷ after

around : (zone : ℕ) (x y : Image) → zone < 3 → DiffersIn zone x y → scan_at y zone ≡ no_records → Around zone x y
around zero x y below differs empty = record {
  before = [];
  after = scan_at x 1 ∷ scan_at x 2 ∷ [];
  at = refl;
  was = refl;
  is = scans_differ 0 x y below differs ∙ ap (λ c. c ∷ scan_at x 1 ∷ scan_at x 2 ∷ []) empty;
}
around (suc zero) x y below differs empty = record {
  before = scan_at x 0 ∷ [];
  after = scan_at x 2 ∷ [];
  at = refl;
  was = refl;
  is = scans_differ 1 x y below differs ∙ ap (λ c. scan_at x 0 ∷ c ∷ scan_at x 2 ∷ []) empty;
}
around (suc (suc zero)) x y below differs empty = record {
  before = scan_at x 0 ∷ scan_at x 1 ∷ [];
  after = [];
  at = refl;
  was = refl;
  is = scans_differ 2 x y below differs ∙ ap (λ c. scan_at x 0 ∷ scan_at x 1 ∷ c ∷ []) empty;
}
around (suc (suc (suc n))) x y below differs empty = absurd (omega arith)

-- y is x with this metadata zone empty
pub record Empties (zone : ℕ) (x y : Image) : Type 0 where
  pub metadata : zone < 3
  pub differs : DiffersIn zone x y
  pub none : (zone_at y zone).blocks ≡ []

-- the logs of the image, and those that are left
record Fewer (zone : ℕ) (x y : Image) (logs : List LogAt) : Type 0 where
  front : List LogAt
  back : List LogAt
  here : Option LogAt
  begins : log_of_zone x.geometry zone (scan_at x zone) (scan_at x zone).payloads (scan_at x zone).end ≡ Ok here
  all : front ++ add_log here back ≡ logs
  left : logs_from y.geometry 0 (scans_of y) ≡ Ok (front ++ back)

fewer : (zone : ℕ) (x y : Image) (logs : List LogAt) → Empties zone x y → logs_from x.geometry 0 (scans_of x) ≡ Ok logs → Fewer zone x y logs
fewer zone x y logs e found =
    let a : Around zone x y = around zone x y e.metadata e.differs (empty_scan y.geometry.block (zone_at y zone).blocks e.none) in
    let split = logs_split x.geometry 0 zone a.before a.after (scan_at x zone) logs (omega (arith, a.at)) (ap (logs_from x.geometry 0) (sym a.was) ∙ found) in
    let around_it : LogsAround x.geometry 0 zone a.before a.after split.0 logs = split.2 in
    record {
      front = around_it.front;
      back = around_it.back;
      here = split.0;
      begins = split.1;
      all = around_it.all;
      left =
          ap (λ g. logs_from g 0 (scans_of y)) e.differs.geometry ∙ (ap (logs_from x.geometry 0) a.is
          ∙ logs_joined x.geometry 0 zone a.before a.after no_records None around_it.front around_it.back (omega (arith, a.at)) around_it.fronts refl around_it.backs);
    }

-- none of the image's logs counts
pub record NoneCounts (x : Image) : Type 0 where
  pub logs : List LogAt
  pub found : logs_from x.geometry 0 (scans_of x) ≡ Ok logs
  pub apart : twin [] logs ≡ None
  pub none : Each (λ l. counts l ≡ false) logs

pub no_file_system : (x : Image) → NoneCounts x → selected_log x ≡ Err NoFileSystem
unfolding select_log
no_file_system x n =
    ap (λ r. (r >>= select_among) >>= (λ l. Ok (chosen_of l))) n.found
    ∙ (ap (λ t. (no_twin n.logs t >>= (λ kept. current_log kept >>= (λ it. Ok (it, greatest_sequence kept)))) >>= (λ l. Ok (chosen_of l))) n.apart
    ∙ ap (λ logs. (undamaged (newest logs) >>= (λ it. Ok (it, greatest_sequence n.logs))) >>= (λ l. Ok (chosen_of l))) (none_kept n.logs n.none))

-- after a reset none counts still
none_still : (zone : ℕ) (x y : Image) → Empties zone x y → NoneCounts x → NoneCounts y
none_still zone x y e n =
    let f : Fewer zone x y n.logs = fewer zone x y n.logs e n.found in
    let parts = fewer_passed_over f.front f.back f.here (ap (twin []) f.all ∙ n.apart) (subst (Each (λ l. counts l ≡ false)) (sym f.all) n.none) in
    record { logs = f.front ++ f.back; found = f.left; apart = parts.0; none = parts.1 }

-- the metadata zones that are left begin with no lower sequence than this one
pub record LeavesLater (zone : ℕ) (x y : Image) : Type 0 where
  pub each : (m : ℕ) → m < 3 → ((zone_at y m).blocks ≡ []) ⊎ (is_below (sequence_at y m) (sequence_at x zone) ≡ false)

-- an empty zone begins with none
empty_sequence : (x : Image) (m n : ℕ) → (zone_at x m).blocks ≡ [] → sequence_at x m ≡ Some n → ⊥
empty_sequence x m n empty h =
    let none : sequence_at x m ≡ None = ap (λ (c : Scan). sequence_in (first_of c.payloads)) (empty_scan x.geometry.block (zone_at x m).blocks empty) in
    cc

-- a log that is left isn't below the one that has gone
above : (zone : ℕ) (x y : Image) (log l : LogAt) → LeavesLater zone x y → sequence_at x zone ≡ Some log.superblock.sequence → IsLogOf y l → log.superblock.sequence ≤ l.superblock.sequence
above zone x y log l later own is =
    let its : sequence_at y l.zone ≡ Some l.superblock.sequence = log_sequence y.geometry l.zone (scan_at y l.zone) (scan_at y l.zone).payloads (scan_at y l.zone).end l is.begins in
    ⊎_elim
    (λ empty. absurd (empty_sequence y l.zone l.superblock.sequence empty its))
    (λ not. ltb-false l.superblock.sequence log.superblock.sequence (sym (ap (λ o. is_below o (Some log.superblock.sequence)) its) ∙ (sym (ap (is_below (sequence_at y l.zone)) own) ∙ not)))
    (later.each l.zone is.metadata)

each_above : (zone : ℕ) (x y : Image) (log : LogAt) (logs : List LogAt) → LeavesLater zone x y → sequence_at x zone ≡ Some log.superblock.sequence → Each (IsLogOf y) logs
    → Each (λ l. log.superblock.sequence ≤ l.superblock.sequence) logs
each_above zone x y log [] later own h = tt
each_above zone x y log (l ∷ ls) later own h = (above zone x y log l later own h.0, each_above zone x y log ls later own h.1)

-- once the selected log's zone is reset, none counts
none_left : (zone : ℕ) (x y : Image) (log : LogAt) (greatest : ℕ) → Empties zone x y → LeavesLater zone x y → log.zone ≡ zone → IsSelectedOn x log greatest → NoneCounts y
none_left zone x y log greatest e later at h =
    let s : Selected x.geometry (scans_of x) log greatest = selected_from x.geometry (scans_of x) log greatest h in
    let is : IsLogOf x log = newest_has (IsLogOf x) (filter counts s.logs) log (each_filter (IsLogOf x) s.logs (each_is x s.logs s.found)) (undamaged_is (newest (filter counts s.logs)) log s.current) in
    let begins : log_of_zone x.geometry zone (scan_at x zone) (scan_at x zone).payloads (scan_at x zone).end ≡ Ok (Some log) =
    subst (λ m. log_of_zone x.geometry m (scan_at x m) (scan_at x m).payloads (scan_at x m).end ≡ Ok (Some log)) at is.begins in
    let f : Fewer zone x y s.logs = fewer zone x y s.logs e s.found in
    let here : f.here ≡ Some log = ok_is (sym f.begins ∙ begins) in
    let all : f.front ++ log ∷ f.back ≡ s.logs = ap (λ o. f.front ++ add_log o f.back) (sym here) ∙ f.all in
    let own : sequence_at x zone ≡ Some log.superblock.sequence = log_sequence x.geometry zone (scan_at x zone) (scan_at x zone).payloads (scan_at x zone).end log begins in
    let apart : twin [] (f.front ++ log ∷ f.back) ≡ None = ap (twin []) all ∙ s.apart in
    record {
      logs = f.front ++ f.back;
      found = f.left;
      apart = fewer_have_no_twin f.front f.back log apart;
      none =
          others_passed_over f.front f.back log apart (ap current_log all ∙ s.current)
          (each_above zone x y log (f.front ++ f.back) later own (each_is y (f.front ++ f.back) f.left));
    }

-- the log is selected, or none counts
abbrev pub Stands : LogAt → Image → Type 0
Stands log x = ((left : ℕ) × IsSelectedOn x log left) ⊎ NoneCounts x

-- after the reset of a zone before which no lower sequence is left
pub reset_step : (zone : ℕ) (x y : Image) (log : LogAt) → Empties zone x y → LeavesLater zone x y → Stands log x → Stands log y
reset_step zone x y log e later stands = ⊎_elim
    (λ is. ⊎_elim
    (λ own. inr (none_left zone x y log is.0 e later own is.1))
    (λ other. inl (other_may_be_reset x y zone log is.0 is.1 e.metadata other e.differs e.none))
    (cases_eq log.zone zone))
    (λ none. inr (none_still zone x y e none))
    stands

-- The selected log in its zone, on images.
use Rattle.std.specs.Prelude.{◌≡◌, ◌≢◌, ℕ, zero, suc, ◌+◌, ◌<◌, false, List, [], ◌∷◌, ◌++◌, length, take, slice_index_or, slice_set, Option, Some, None, Ok, filter, refl}
use Rattle.std.proofs.Common.{◌∙◌, ap, sym, subst, arith}
use Rattle.std.proofs.lemmas.List.{append-nil}
use mathlib.Core.List.{IsPrefix}
use Rattle.zone_image.specs.declared.Geometry.{Geometry}
use Rattle.zone_image.specs.Image.{Image, zone_at}
use Rattle.record_model.specs.FieldDecoding.{◌>>=◌}
use Rattle.log_model.specs.LogScan.{Scan, record_blocks, scan}
use Rattle.log_model.specs.LogScan.ScanEnd.{Clean, Torn}
use Rattle.log_model.specs.ScanLaws.{is_bad}
use Rattle.log_model.specs.LogSelection.{LogAt, log_of_zone, logs_from, add_log, counts, newest, select_log, scans_of}
use Rattle.log_model.specs.LogChangeLaws.{no_records}
use Rattle.log_model.specs.AppendLaws.{scan_at, IsSelectedOn, DiffersIn, AppendsTo, SelectedIsOfItsZone, SelectedGrowsInItsZone, RecordBehindSelected, PartBehindSelected}
use Rattle.log_model.proofs.RecordLaws.{append_adds_payload, part_is_torn}
use Rattle.log_model.proofs.SelectionLaws.{undamaged_is}
use Rattle.log_model.proofs.SelectedLog.{Selected, selected_from, went_on, log_zone, ok_is}
use Rattle.log_model.proofs.GrowingLog.{Each, each_filter, newest_has, own_scan, selected_log_may_grow}

-- a log is that of one of the zones from a number on
IsOfZone : ℕ → List Scan → LogAt → Type 0
IsOfZone zone scans log = (k : ℕ) × (k < length scans) × (log.zone ≡ zone + k) × (log.scan ≡ slice_index_or scans k no_records)

-- one log more, or none
each_with : (P : LogAt → Type 0) (o : Option LogAt) (logs : List LogAt) → ((log : LogAt) → o ≡ Some log → P log) → Each P logs → Each P (add_log o logs)
each_with P None logs h g = g
each_with P (Some log) logs h g = (h log refl, g)

-- what follows of each
each_from : (P Q : LogAt → Type 0) (logs : List LogAt) → ((log : LogAt) → P log → Q log) → Each P logs → Each Q logs
each_from P Q [] step h = tt
each_from P Q (log ∷ logs) step h = (step log h.0, each_from P Q logs step h.1)

-- each log is that of one of the zones
each_of_zone : (g : Geometry) (zone : ℕ) (scans : List Scan) (logs : List LogAt) → logs_from g zone scans ≡ Ok logs → Each (IsOfZone zone scans) logs
unfolding IsOfZone
each_of_zone g zone [] logs h = subst (Each (IsOfZone zone [])) (ok_is h) tt
each_of_zone g zone (c ∷ cs) logs h =
    let first = went_on (log_of_zone g zone c c.payloads c.end) (λ log. logs_from g (zone + 1) cs >>= (λ others. Ok (add_log log others))) logs h in
    let others = went_on (logs_from g (zone + 1) cs) (λ os. Ok (add_log first.0 os)) logs first.2 in
    let behind : Each (IsOfZone zone (c ∷ cs)) others.0 =
    each_from (IsOfZone (zone + 1) cs) (IsOfZone zone (c ∷ cs)) others.0
    (λ log is. (suc is.0, omega (arith, is.1), omega (arith, is.2), is.3)) (each_of_zone g (zone + 1) cs others.0 others.1) in
    subst (Each (IsOfZone zone (c ∷ cs))) (ok_is others.2)
    (each_with (IsOfZone zone (c ∷ cs)) first.0 others.0
    (λ log is.
    let begins : log_of_zone g zone c c.payloads c.end ≡ Ok (Some log) = first.1 ∙ ap Ok is in
    (0, omega arith, omega (arith, log_zone g zone c c.payloads c.end log begins), own_scan g zone c c.payloads c.end log begins)) behind)

pub selected_is_of_its_zone : SelectedIsOfItsZone
unfolding IsOfZone
selected_is_of_its_zone g scans log greatest h =
    let s : Selected g scans log greatest = selected_from g scans log greatest h in
    let it : IsOfZone 0 scans log =
    newest_has (IsOfZone 0 scans) (filter counts s.logs) log (each_filter (IsOfZone 0 scans) s.logs (each_of_zone g 0 scans s.logs s.found))
    (undamaged_is (newest (filter counts s.logs)) log s.current) in
    let same : it.0 ≡ log.zone = omega (arith, it.2) in
    (omega (arith, it.1), it.3 ∙ ap (λ k. slice_index_or scans k no_records) same)

-- a zone that doesn't differ has the same scan
same_scan : (zone m : ℕ) (i j : Image) → DiffersIn zone i j → m < 3 → m ≢ zone → scan_at j m ≡ scan_at i m
same_scan zone m i j differs less other =
    ap (λ g. scan g.block (zone_at j m).blocks) differs.geometry ∙ ap (scan i.geometry.block) (differs.others m less other)

-- the scans of the zones, of which one differs
pub scans_differ : (zone : ℕ) (i j : Image) → zone < 3 → DiffersIn zone i j → scans_of j ≡ slice_set (scans_of i) zone (scan_at j zone)
scans_differ zero i j less differs =
    ap (λ a. scan_at j 0 ∷ a ∷ scan_at j 2 ∷ []) (same_scan 0 1 i j differs (omega arith) (λ e. cc))
    ∙ ap (λ b. scan_at j 0 ∷ scan_at i 1 ∷ b ∷ []) (same_scan 0 2 i j differs (omega arith) (λ e. cc))
scans_differ (suc zero) i j less differs =
    ap (λ a. a ∷ scan_at j 1 ∷ scan_at j 2 ∷ []) (same_scan 1 0 i j differs (omega arith) (λ e. cc))
    ∙ ap (λ b. scan_at i 0 ∷ scan_at j 1 ∷ b ∷ []) (same_scan 1 2 i j differs (omega arith) (λ e. cc))
scans_differ (suc (suc zero)) i j less differs =
    ap (λ a. a ∷ scan_at j 1 ∷ scan_at j 2 ∷ []) (same_scan 2 0 i j differs (omega arith) (λ e. cc))
    ∙ ap (λ b. scan_at i 0 ∷ b ∷ scan_at j 2 ∷ []) (same_scan 2 1 i j differs (omega arith) (λ e. cc))
scans_differ (suc (suc (suc n))) i j less differs = absurd (omega arith)

-- the selected log of three zones may grow in its own
grows_in : (zone : ℕ) (g : Geometry) (a b c grown : Scan) (log : LogAt) (greatest : ℕ) → zone < 3 → log.zone ≡ zone
    → select_log g (a ∷ b ∷ c ∷ []) ≡ Ok (log, greatest) → IsPrefix (slice_index_or (a ∷ b ∷ c ∷ []) zone no_records).payloads grown.payloads
    → is_bad grown.end ≡ false → select_log g (slice_set (a ∷ b ∷ c ∷ []) zone grown) ≡ Ok (record log { scan = grown }, greatest)
grows_in zero g a b c grown log greatest less at h longer ok = selected_log_may_grow g [] (b ∷ c ∷ []) a grown log greatest h at longer ok
grows_in (suc zero) g a b c grown log greatest less at h longer ok = selected_log_may_grow g (a ∷ []) (c ∷ []) b grown log greatest h at longer ok
grows_in (suc (suc zero)) g a b c grown log greatest less at h longer ok = selected_log_may_grow g (a ∷ b ∷ []) [] c grown log greatest h at longer ok
grows_in (suc (suc (suc n))) g a b c grown log greatest less at h longer ok = absurd (omega arith)

pub selected_grows_in_its_zone : SelectedGrowsInItsZone
selected_grows_in_its_zone i j log greatest h differs longer ok =
    let own = selected_is_of_its_zone i.geometry (scans_of i) log greatest h in
    let prefix : IsPrefix (slice_index_or (scans_of i) log.zone no_records).payloads (scan_at j log.zone).payloads =
    subst (λ s. IsPrefix s.payloads (scan_at j log.zone).payloads) own.1 longer in
    ap (λ g. select_log g (scans_of j)) differs.geometry
    ∙ (ap (select_log i.geometry) (scans_differ log.zone i j own.0 differs)
    ∙ grows_in log.zone i.geometry (scan_at i 0) (scan_at i 1) (scan_at i 2) (scan_at j log.zone) log greatest own.0 refl h prefix ok)

-- the scan of one of three zones
pub scan_of_zone : (i : Image) (zone : ℕ) → zone < 3 → slice_index_or (scans_of i) zone no_records ≡ scan_at i zone
scan_of_zone i zero less = refl
scan_of_zone i (suc zero) less = refl
scan_of_zone i (suc (suc zero)) less = refl
scan_of_zone i (suc (suc (suc n))) less = absurd (omega arith)

-- the selected log's scan is that of its zone
pub own_zone : (i : Image) (log : LogAt) (greatest : ℕ) → IsSelectedOn i log greatest → log.scan ≡ scan_at i log.zone
own_zone i log greatest h =
    let own = selected_is_of_its_zone i.geometry (scans_of i) log greatest h in own.1 ∙ scan_of_zone i log.zone own.0

-- more blocks in the log's zone, by what their scan is
pub appended_as : (i j : Image) (log : LogAt) (greatest : ℕ) (more : List (List ℕ)) (after : Scan) (payloads : List (ℕ × List ℕ)) → IsSelectedOn i log greatest
    → AppendsTo log.zone more i j → scan i.geometry.block ((zone_at i log.zone).blocks ++ more) ≡ after
    → log.scan.payloads ++ payloads ≡ after.payloads → is_bad after.end ≡ false → IsSelectedOn j (record log { scan = after }) greatest
appended_as i j log greatest more after payloads h appends is longer ok =
    let grown : scan_at j log.zone ≡ after =
    ap (λ g. scan g.block (zone_at j log.zone).blocks) appends.differs.geometry ∙ (ap (scan i.geometry.block) appends.behind ∙ is) in
    subst (λ s. IsSelectedOn j (record log { scan = s }) greatest) grown
    (selected_grows_in_its_zone i j log greatest h appends.differs
    (subst (λ s. IsPrefix log.scan.payloads s.payloads) (sym grown) (payloads, longer))
    (ap (λ s. is_bad s.end) grown ∙ ok))

pub record_behind_selected : RecordBehindSelected
record_behind_selected i j log greatest payload h clean fits appends =
    let own : log.scan ≡ scan_at i log.zone = own_zone i log greatest h in
    let blocks : List (List ℕ) = (zone_at i log.zone).blocks in
    let it : scan i.geometry.block (blocks ++ record_blocks i.geometry.block payload) ≡ record { payloads = (scan_at i log.zone).payloads ++ (length blocks, payload) ∷ []; end = Clean } =
    append_adds_payload i.geometry.block blocks payload fits (ap (λ s. s.end) (sym own) ∙ clean) in
    appended_as i j log greatest (record_blocks i.geometry.block payload) (record { payloads = log.scan.payloads ++ (length blocks, payload) ∷ []; end = Clean })
    ((length blocks, payload) ∷ []) h appends
    (it ∙ ap (λ s. record { payloads = s.payloads ++ (length blocks, payload) ∷ []; end = Clean }) (sym own)) refl refl

pub part_behind_selected : PartBehindSelected
part_behind_selected i j log greatest k payload h clean fits some less appends =
    let own : log.scan ≡ scan_at i log.zone = own_zone i log greatest h in
    let blocks : List (List ℕ) = (zone_at i log.zone).blocks in
    let it : scan i.geometry.block (blocks ++ take k (record_blocks i.geometry.block payload)) ≡ record { payloads = (scan_at i log.zone).payloads; end = Torn (length blocks) } =
    part_is_torn i.geometry.block k blocks payload fits (ap (λ s. s.end) (sym own) ∙ clean) some less in
    appended_as i j log greatest (take k (record_blocks i.geometry.block payload)) (record { payloads = log.scan.payloads; end = Torn (length blocks) })
    [] h appends
    (it ∙ ap (λ s. record { payloads = s.payloads; end = Torn (length blocks) }) (sym own)) (append-nil log.scan.payloads) refl

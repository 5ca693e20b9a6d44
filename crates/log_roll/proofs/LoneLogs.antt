-- The selection where at most one metadata zone has records.
use Rattle.std.specs.Prelude.{◌≡◌, ◌≢◌, ℕ, zero, suc, ◌+◌, ◌-◌, ◌<◌, max, true, false, cond, List, [], ◌∷◌, ◌++◌, length, take, slice_set, Option, Some, None, Result, Ok, Err, refl}
use Rattle.std.proofs.Common.{◌∙◌, ap, subst, ⊎_elim, arith}
use Rattle.std.proofs.lemmas.Bool.{eq-eqb, cases_lt}
use Rattle.std.proofs.lemmas.List.{take-append-le}
use Rattle.zone_image.specs.declared.Geometry.{Geometry}
use Rattle.zone_image.specs.Image.{Image, zone_at}
use Rattle.record_model.specs.FieldDecoding.{◌>>=◌}
use Rattle.record_model.specs.Decoding.{record_of}
use Rattle.record_model.specs.declared.types.FileEntry.{FileEntry}
use Rattle.record_model.specs.declared.types.Record.TheVariants.{Snapshot}
use Rattle.superblock_core.specs.Superblock.{superblock_of}
use Rattle.superblock_core.specs.declared.superblock.Superblock.{Superblock}
use Rattle.log_model.specs.declared.selection.Refusal.{Refusal}
use Rattle.log_model.specs.declared.selection.Refusal.TheVariants.{NoFileSystem, Differs}
use Rattle.log_model.specs.LogScan.{Scan, ScanEnd, blocks_of, record_blocks, scan, scan_from, scan_within, with_payload}
use Rattle.log_model.specs.LogScan.ScanEnd.{Clean, Torn, Bad}
use Rattle.log_model.specs.ScanLaws.{is_bad, IsRecordOf}
use Rattle.log_model.specs.LogSelection.{LogAt, fits_device, log_with, log_of_zone, add_log, snapshot_in, is_snapshot, has_snapshot, decides, counts, undamaged, newest, select_among, select_log, selected_log, scans_of, chosen_of}
use Rattle.log_model.specs.LogChangeLaws.{no_records}
use Rattle.log_model.specs.AppendLaws.{IsSelectedOn}
use Rattle.log_model.proofs.RecordLaws.{length_record, record_is_found, scan_record, scan_first_blocks}
use Rattle.log_model.proofs.CrashLaws.{take_past}

-- a result that is given on as it is
given_on : {A E : Type 0} → (r : Result A E) → (r >>= (λ x. Ok x)) ≡ r
given_on (Ok x) = refl
given_on (Err e) = refl

-- the scans where one zone alone has records
abbrev pub lone : ℕ → Scan → List Scan
lone zone c = slice_set (no_records ∷ no_records ∷ no_records ∷ []) zone c

-- they have the log of that zone, if it has one
pub select_lone : (g : Geometry) (zone : ℕ) (c : Scan) → zone < 3
    → select_log g (lone zone c) ≡ ((log_of_zone g zone c c.payloads c.end >>= (λ o. Ok (add_log o []))) >>= select_among)
unfolding select_log
select_lone g zero c below = refl
select_lone g (suc zero) c below = ap (λ r. r >>= select_among) (given_on (log_of_zone g 1 c c.payloads c.end >>= (λ o. Ok (add_log o []))))
select_lone g (suc (suc zero)) c below =
    let r : Result (List LogAt) Refusal = log_of_zone g 2 c c.payloads c.end >>= (λ o. Ok (add_log o [])) in
    ap (λ x. x >>= select_among) (given_on (r >>= (λ x. Ok x)) ∙ given_on r)
select_lone g (suc (suc (suc n))) c below = absurd (omega arith)

-- without a log there is no file system
lone_none : (g : Geometry) (zone : ℕ) (c : Scan) → zone < 3 → log_of_zone g zone c c.payloads c.end ≡ Ok None → select_log g (lone zone c) ≡ Err NoFileSystem
lone_none g zone c below none = select_lone g zone c below ∙ ap (λ r. (r >>= (λ o. Ok (add_log o []))) >>= select_among) none

-- nor is there with one that is passed over
lone_passed : (g : Geometry) (zone : ℕ) (c : Scan) (log : LogAt) → zone < 3 → log_of_zone g zone c c.payloads c.end ≡ Ok (Some log) → counts log ≡ false
    → select_log g (lone zone c) ≡ Err NoFileSystem
lone_passed g zone c log below begins passed =
    select_lone g zone c below ∙ (ap (λ r. (r >>= (λ o. Ok (add_log o []))) >>= select_among) begins
    ∙ ap (λ b. undamaged (newest (cond b (log ∷ []) [])) >>= (λ it. Ok (it, max log.superblock.sequence 0))) passed)

-- a log with a snapshot is selected
lone_complete : (g : Geometry) (zone : ℕ) (c : Scan) (log : LogAt) → zone < 3 → log_of_zone g zone c c.payloads c.end ≡ Ok (Some log) → has_snapshot log ≡ Ok true
    → select_log g (lone zone c) ≡ Ok (log, log.superblock.sequence)
lone_complete g zone c log below begins there =
    let highest : max log.superblock.sequence 0 ≡ log.superblock.sequence = omega arith in
    select_lone g zone c below ∙ (ap (λ r. (r >>= (λ o. Ok (add_log o []))) >>= select_among) begins
    ∙ (ap (λ b. undamaged (newest (cond b (log ∷ []) [])) >>= (λ it. Ok (it, max log.superblock.sequence 0))) (ap decides there)
    ∙ (ap (λ r. (r >>= (λ x. Ok log)) >>= (λ it. Ok (it, max log.superblock.sequence 0))) there ∙ ap (λ n. Ok (log, n)) highest)))

-- one metadata zone alone has blocks
pub record IsLone (zone : ℕ) (blocks : List (List ℕ)) (j : Image) : Type 0 where
  pub metadata : zone < 3
  pub here : (zone_at j zone).blocks ≡ blocks
  pub others : (m : ℕ) → m < 3 → m ≢ zone → (zone_at j m).blocks ≡ []

-- an empty zone has no records
pub empty_scan : (block : ℕ) (blocks : List (List ℕ)) → blocks ≡ [] → scan block blocks ≡ no_records
unfolding scan scan_within
empty_scan block blocks none = ap (scan block) none

three : {a b c d e f : Scan} → a ≡ d → b ≡ e → c ≡ f → ◌≡◌ {A = List Scan} (a ∷ b ∷ c ∷ []) (d ∷ e ∷ f ∷ [])
three p q r = λ k. p k ∷ q k ∷ r k ∷ []

-- the scans of such an image
pub scans_lone : (zone : ℕ) (blocks : List (List ℕ)) (j : Image) → IsLone zone blocks j → scans_of j ≡ lone zone (scan j.geometry.block blocks)
scans_lone zero blocks j is =
    three (ap (scan j.geometry.block) is.here) (empty_scan j.geometry.block (zone_at j 1).blocks (is.others 1 (omega arith) (λ e. cc))) (empty_scan j.geometry.block (zone_at j 2).blocks (is.others 2 (omega arith) (λ e. cc)))
scans_lone (suc zero) blocks j is =
    three (empty_scan j.geometry.block (zone_at j 0).blocks (is.others 0 (omega arith) (λ e. cc))) (ap (scan j.geometry.block) is.here) (empty_scan j.geometry.block (zone_at j 2).blocks (is.others 2 (omega arith) (λ e. cc)))
scans_lone (suc (suc zero)) blocks j is =
    three (empty_scan j.geometry.block (zone_at j 0).blocks (is.others 0 (omega arith) (λ e. cc))) (empty_scan j.geometry.block (zone_at j 1).blocks (is.others 1 (omega arith) (λ e. cc))) (ap (scan j.geometry.block) is.here)
scans_lone (suc (suc (suc n))) blocks j is = let below = is.metadata in absurd (omega arith)

-- where nothing is selected
none_selected : (j : Image) → select_log j.geometry (scans_of j) ≡ Err NoFileSystem → selected_log j ≡ Err NoFileSystem
none_selected j h = ap (λ r. r >>= (λ l. Ok (chosen_of l))) h

-- a payload that is a superblock of a device
pub record IsSuperblock (g : Geometry) (payload : List ℕ) (s : Superblock) : Type 0 where
  pub fits : IsRecordOf g.block payload
  pub size : length payload ≡ 512
  pub reads : superblock_of payload ≡ Ok s
  pub device : fits_device g s ≡ true

-- the first blocks of a record have no payload, and end as no damage
first_blocks : (k block at : ℕ) (payload : List ℕ) → IsRecordOf block payload → k < blocks_of block (length payload)
    → ((scan_from block at (take k (record_blocks block payload))).payloads ≡ []) × (is_bad (scan_from block at (take k (record_blocks block payload))).end ≡ false)
unfolding scan_within
first_blocks zero block at payload fits less = (refl, refl)
first_blocks (suc k) block at payload fits less =
    let it = scan_first_blocks (suc k) block at payload fits (omega arith) less in
    (ap (λ s. s.payloads) it, ap (λ s. is_bad s.end) it)

-- a zone without payloads has no log, unless it ends bad
no_log : (g : Geometry) (zone : ℕ) (c : Scan) (payloads : List (ℕ × List ℕ)) (end : ScanEnd) → payloads ≡ [] → is_bad end ≡ false
    → log_of_zone g zone c payloads end ≡ Ok None
no_log g zone c (p ∷ ps) end h ok = cc
no_log g zone c [] Clean h ok = refl
no_log g zone c [] (Torn block) h ok = refl
no_log g zone c [] (Bad block len stored computed) h ok = cc

-- a zone that begins with a superblock
begins : (g : Geometry) (zone : ℕ) (c : Scan) (payload : List ℕ) (rest : List (ℕ × List ℕ)) (end : ScanEnd) (s : Superblock) → IsSuperblock g payload s
    → log_of_zone g zone c ((0, payload) ∷ rest) end ≡ Ok (Some (record { zone = zone; superblock = s; scan = c }))
begins g zone c payload rest end s is =
    ap (λ b. cond b (log_with g zone c payload (superblock_of payload)) (Ok None)) (eq-eqb (length payload) 512 is.size)
    ∙ (ap (log_with g zone c payload) is.reads
    ∙ ap (λ b. cond {A = Result (Option LogAt) Refusal} b (Ok (Some (record { zone = zone; superblock = s; scan = c }))) (Err (Differs zone s.block s.zone_blocks s.zones))) is.device)

-- a log of one payload doesn't count
one_payload : (zone : ℕ) (p : ℕ × List ℕ) (end : ScanEnd) → is_bad end ≡ false → decides (snapshot_in zone end (p ∷ [])) ≡ false
one_payload zone p Clean ok = refl
one_payload zone p (Torn block) ok = refl
one_payload zone p (Bad block len stored computed) ok = cc

-- a part of a superblock alone is no file system
part_of_superblock : (zone k : ℕ) (j : Image) (payload : List ℕ) (s : Superblock) → IsSuperblock j.geometry payload s → k < blocks_of j.geometry.block (length payload)
    → IsLone zone (take k (record_blocks j.geometry.block payload)) j → selected_log j ≡ Err NoFileSystem
unfolding scan
part_of_superblock zone k j payload s is less lone_zone =
    let c : Scan = scan j.geometry.block (take k (record_blocks j.geometry.block payload)) in
    let parts = first_blocks k j.geometry.block 0 payload is.fits less in
    none_selected j (ap (select_log j.geometry) (scans_lone zone (take k (record_blocks j.geometry.block payload)) j lone_zone)
    ∙ lone_none j.geometry zone c lone_zone.metadata (no_log j.geometry zone c c.payloads c.end parts.0 parts.1))

-- nor is a superblock with a part of a snapshot
part_of_snapshot : (zone k : ℕ) (j : Image) (payload snapshot : List ℕ) (s : Superblock) → IsSuperblock j.geometry payload s → IsRecordOf j.geometry.block snapshot
    → k < blocks_of j.geometry.block (length snapshot)
    → IsLone zone (record_blocks j.geometry.block payload ++ take k (record_blocks j.geometry.block snapshot)) j → selected_log j ≡ Err NoFileSystem
unfolding scan
part_of_snapshot zone k j payload snapshot s is fits less lone_zone =
    let g : Geometry = j.geometry in
    let block : ℕ = g.block in
    let blocks : List (List ℕ) = record_blocks block payload ++ take k (record_blocks block snapshot) in
    let rest : Scan = scan_from block (0 + blocks_of block (length payload)) (take k (record_blocks block snapshot)) in
    let parts = first_blocks k block (0 + blocks_of block (length payload)) snapshot fits less in
    let it : Scan = record { payloads = (0, payload) ∷ []; end = rest.end } in
    let found : scan block blocks ≡ it =
    record_is_found block 0 payload (take k (record_blocks block snapshot)) is.fits ∙ ap (λ ps. record { payloads = (0, payload) ∷ ps; end = rest.end }) parts.0 in
    none_selected j (ap (select_log g) (scans_lone zone blocks j lone_zone ∙ ap (lone zone) found)
    ∙ lone_passed g zone it (record { zone = zone; superblock = s; scan = it }) lone_zone.metadata (begins g zone it payload [] rest.end s is) (one_payload zone (0, payload) rest.end parts.1))

-- the superblock and the whole snapshot are selected
pub lone_log : (zone : ℕ) (j : Image) (payload snapshot : List ℕ) (s : Superblock) (files : List FileEntry) → IsSuperblock j.geometry payload s → IsRecordOf j.geometry.block snapshot
    → record_of snapshot ≡ Ok (Snapshot files) → IsLone zone (record_blocks j.geometry.block payload ++ record_blocks j.geometry.block snapshot) j
    → IsSelectedOn j
    (record { zone = zone; superblock = s; scan = record { payloads = (0, payload) ∷ (blocks_of j.geometry.block (length payload), snapshot) ∷ []; end = Clean } })
    s.sequence
unfolding scan
lone_log zone j payload snapshot s files is fits reads lone_zone =
    let g : Geometry = j.geometry in
    let block : ℕ = g.block in
    let n : ℕ = blocks_of block (length payload) in
    let blocks : List (List ℕ) = record_blocks block payload ++ record_blocks block snapshot in
    let it : Scan = record { payloads = (0, payload) ∷ (n, snapshot) ∷ []; end = Clean } in
    let found : scan block blocks ≡ it =
    record_is_found block 0 payload (record_blocks block snapshot) is.fits
    ∙ (ap (with_payload 0 payload) (scan_record block (0 + n) snapshot fits) ∙ ap (λ m. record { payloads = (0, payload) ∷ (m, snapshot) ∷ []; end = Clean }) (omega arith)) in
    ap (select_log g) (scans_lone zone blocks j lone_zone ∙ ap (lone zone) found)
    ∙ lone_complete g zone it (record { zone = zone; superblock = s; scan = it }) lone_zone.metadata (begins g zone it payload ((n, snapshot) ∷ []) Clean s is) (ap (is_snapshot zone n) reads)

-- fewer than all blocks of the two records are no file system
pub lone_part : (zone k : ℕ) (j : Image) (payload snapshot : List ℕ) (s : Superblock) → IsSuperblock j.geometry payload s → IsRecordOf j.geometry.block snapshot
    → k < blocks_of j.geometry.block (length payload) + blocks_of j.geometry.block (length snapshot)
    → IsLone zone (take k (record_blocks j.geometry.block payload ++ record_blocks j.geometry.block snapshot)) j → selected_log j ≡ Err NoFileSystem
lone_part zone k j payload snapshot s is fits less lone_zone =
    let block : ℕ = j.geometry.block in
    let first : List (List ℕ) = record_blocks block payload in
    let second : List (List ℕ) = record_blocks block snapshot in
    let size : length first ≡ blocks_of block (length payload) = length_record block payload in
    ⊎_elim
    (λ front.
    let part : take k (first ++ second) ≡ take k first = take-append-le k first second (omega (arith, front)) in
    part_of_superblock zone k j payload s is (omega (arith, front, size)) (subst (λ bs. IsLone zone bs j) part lone_zone))
    (λ past.
    let rest : take k (first ++ second) ≡ first ++ take (k - length first) second = take_past first second k past in
    part_of_snapshot zone (k - length first) j payload snapshot s is fits (omega (arith, past, size, less)) (subst (λ bs. IsLone zone bs j) rest lone_zone))
    (cases_lt k (length first))

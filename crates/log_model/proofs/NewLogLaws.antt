-- A new log in a metadata zone that was empty, on images.
use Rattle.std.specs.Prelude.{◌≡◌, ℕ, zero, suc, ◌+◌, ◌<◌, true, false, cond, List, [], ◌∷◌, ◌++◌, length, take, slice_index_or, slice_set, Option, Some, None, Result, Ok, Err, refl}
use Rattle.std.proofs.Common.{◌∙◌, ap, sym, arith}
use Rattle.std.proofs.lemmas.Bool.{eq-eqb}
use Rattle.zone_image.specs.declared.Geometry.{Geometry}
use Rattle.zone_image.specs.Image.{Image, zone_at}
use Rattle.superblock_core.specs.Superblock.{superblock_of}
use Rattle.superblock_core.specs.declared.superblock.Superblock.{Superblock}
use Rattle.log_model.specs.declared.selection.Refusal.{Refusal}
use Rattle.log_model.specs.declared.selection.Refusal.TheVariants.{Differs}
use Rattle.log_model.specs.LogScan.{Scan, ScanEnd, blocks_of, record_blocks, scan, scan_from, scan_within, with_payload}
use Rattle.log_model.specs.LogScan.ScanEnd.{Clean, Torn, Bad}
use Rattle.log_model.specs.ScanLaws.{is_bad, IsRecordOf}
use Rattle.log_model.specs.LogSelection.{LogAt, fits_device, log_with, log_of_zone, snapshot_in, is_snapshot, decides, select_log, scans_of}
use Rattle.log_model.specs.LogChangeLaws.{no_records, Selects}
use Rattle.log_model.specs.AppendLaws.{scan_at, IsSelectedOn, DiffersIn}
use Rattle.log_model.specs.NewLogLaws.{FillsZone, OtherMayBeReset, PartOfSuperblock, PartOfSnapshot, WholeSnapshot}
use Rattle.log_model.proofs.RecordLaws.{record_is_found, scan_record, scan_first_blocks}
use Rattle.log_model.proofs.LogChangeLaws.{torn_zone_is_as_empty, other_zone_may_be_emptied, begun_log_is_passed_over, complete_log_is_selected}
use Rattle.log_model.proofs.AppendLaws.{scans_differ, scan_of_zone}

-- scans about one of them
record About (zone : ℕ) (scans : List Scan) : Type 0 where
  before : List Scan
  after : List Scan
  at : length before ≡ zone
  here : before ++ slice_index_or scans zone no_records ∷ after ≡ scans
  set : (x : Scan) → before ++ x ∷ after ≡ slice_set scans zone x

-- three scans about one of them
about_three : (zone : ℕ) (a b c : Scan) → zone < 3 → About zone (a ∷ b ∷ c ∷ [])
about_three zero a b c less = record { before = []; after = b ∷ c ∷ []; at = refl; here = refl; set = λ x. refl }
about_three (suc zero) a b c less = record { before = a ∷ []; after = c ∷ []; at = refl; here = refl; set = λ x. refl }
about_three (suc (suc zero)) a b c less = record { before = a ∷ b ∷ []; after = []; at = refl; here = refl; set = λ x. refl }
about_three (suc (suc (suc n))) a b c less = absurd (omega arith)

-- an empty zone has no records
empty_scan : (block : ℕ) → scan block [] ≡ no_records
unfolding scan scan_within
empty_scan block = refl

-- the scans of an image and of one with another zone, about that zone
record TwoImages (zone : ℕ) (old new : Scan) (i j : Image) : Type 0 where
  before : List Scan
  after : List Scan
  at : length before ≡ zone
  was : scans_of i ≡ before ++ old ∷ after
  is : scans_of j ≡ before ++ new ∷ after

-- where a zone differs, and its scans are known
two_images : (zone : ℕ) (old new : Scan) (i j : Image) → zone < 3 → DiffersIn zone i j → scan_at i zone ≡ old → scan_at j zone ≡ new → TwoImages zone old new i j
two_images zone old new i j less differs was is =
    let a : About zone (scans_of i) = about_three zone (scan_at i 0) (scan_at i 1) (scan_at i 2) less in
    record {
      before = a.before;
      after = a.after;
      at = a.at;
      was = sym a.here ∙ ap (λ x. a.before ++ x ∷ a.after) (scan_of_zone i zone less ∙ was);
      is = scans_differ zone i j less differs ∙ (sym (a.set (scan_at j zone)) ∙ ap (λ x. a.before ++ x ∷ a.after) is);
    }

pub other_may_be_reset : OtherMayBeReset
other_may_be_reset i j zone log greatest h less away differs none =
    let empty : scan_at j zone ≡ no_records = ap (scan j.geometry.block) none ∙ empty_scan j.geometry.block in
    let two : TwoImages zone (scan_at i zone) no_records i j = two_images zone (scan_at i zone) no_records i j less differs refl empty in
    let left : Selects i.geometry (two.before ++ no_records ∷ two.after) log =
    other_zone_may_be_emptied i.geometry two.before two.after (scan_at i zone) log (greatest, ap (select_log i.geometry) (sym two.was) ∙ h) (λ same. away (same ∙ two.at)) in
    (left.0, ap (λ g. select_log g (scans_of j)) differs.geometry ∙ (ap (select_log i.geometry) two.is ∙ left.1))

-- an image with a filled zone, and one where it was empty
filled_images : (zone : ℕ) (blocks : List (List ℕ)) (new : Scan) (i j : Image) → FillsZone zone blocks i j → scan i.geometry.block blocks ≡ new → TwoImages zone no_records new i j
filled_images zone blocks new i j fills is =
    two_images zone no_records new i j fills.metadata fills.differs
    (ap (scan i.geometry.block) fills.was_empty ∙ empty_scan i.geometry.block)
    (ap (λ g. scan g.block (zone_at j zone).blocks) fills.differs.geometry ∙ (ap (scan i.geometry.block) fills.filled ∙ is))

-- the first blocks of a record have no payload, and end as no damage
first_blocks : (k block at : ℕ) (payload : List ℕ) → IsRecordOf block payload → k < blocks_of block (length payload)
    → ((scan_from block at (take k (record_blocks block payload))).payloads ≡ []) × (is_bad (scan_from block at (take k (record_blocks block payload))).end ≡ false)
unfolding scan_within
first_blocks zero block at payload fits less = (refl, refl)
first_blocks (suc k) block at payload fits less =
    let it = scan_first_blocks (suc k) block at payload fits (omega arith) less in
    (ap (λ s. s.payloads) it, ap (λ s. is_bad s.end) it)

-- of the old image, seen on the new one
onto : (i j : Image) (zone : ℕ) (old new : Scan) (log : LogAt) (greatest : ℕ) (two : TwoImages zone old new i j) → j.geometry ≡ i.geometry
    → select_log i.geometry (two.before ++ new ∷ two.after) ≡ Ok (log, greatest) → IsSelectedOn j log greatest
onto i j zone old new log greatest two same h =
    ap (λ g. select_log g (scans_of j)) same ∙ (ap (select_log i.geometry) two.is ∙ h)

pub part_of_superblock : PartOfSuperblock
unfolding scan
part_of_superblock i j zone k log greatest payload s h next less fills =
    let it : Scan = scan i.geometry.block (take k (record_blocks i.geometry.block payload)) in
    let two : TwoImages zone no_records it i j = filled_images zone (take k (record_blocks i.geometry.block payload)) it i j fills refl in
    let parts = first_blocks k i.geometry.block 0 payload next.fits less in
    onto i j zone no_records it log greatest two fills.differs.geometry
    (torn_zone_is_as_empty i.geometry two.before two.after it parts.0 parts.1 ∙ (ap (select_log i.geometry) (sym two.was) ∙ h))

-- a zone that begins with the next superblock
begins : (g : Geometry) (zone : ℕ) (c : Scan) (payload : List ℕ) (rest : List (ℕ × List ℕ)) (end : ScanEnd) (s : Superblock) → length payload ≡ 512
    → superblock_of payload ≡ Ok s → fits_device g s ≡ true → log_of_zone g zone c ((0, payload) ∷ rest) end ≡ Ok (Some (record { zone = zone; superblock = s; scan = c }))
begins g zone c payload rest end s size reads device =
    ap (λ b. cond b (log_with g zone c payload (superblock_of payload)) (Ok None)) (eq-eqb (length payload) 512 size)
    ∙ (ap (log_with g zone c payload) reads
    ∙ ap (λ b. cond {A = Result (Option LogAt) Refusal} b (Ok (Some (record { zone = zone; superblock = s; scan = c }))) (Err (Differs zone s.block s.zone_blocks s.zones))) device)

-- a log of one payload doesn't count
one_payload : (zone : ℕ) (p : ℕ × List ℕ) (end : ScanEnd) → is_bad end ≡ false → decides (snapshot_in zone end (p ∷ [])) ≡ false
one_payload zone p Clean ok = refl
one_payload zone p (Torn block) ok = refl
one_payload zone p (Bad block len stored computed) ok = cc

pub part_of_snapshot : PartOfSnapshot
unfolding scan
part_of_snapshot i j zone k log greatest payload snapshot s h next fits less fills =
    let block : ℕ = i.geometry.block in
    let rest : Scan = scan_from block (0 + blocks_of block (length payload)) (take k (record_blocks block snapshot)) in
    let parts = first_blocks k block (0 + blocks_of block (length payload)) snapshot fits less in
    let it : Scan = record { payloads = (0, payload) ∷ []; end = rest.end } in
    let is : scan block (record_blocks block payload ++ take k (record_blocks block snapshot)) ≡ it =
    record_is_found block 0 payload (take k (record_blocks block snapshot)) next.fits ∙ ap (λ ps. record { payloads = (0, payload) ∷ ps; end = rest.end }) parts.0 in
    let two : TwoImages zone no_records it i j = filled_images zone (record_blocks block payload ++ take k (record_blocks block snapshot)) it i j fills is in
    let new : LogAt = record { zone = length two.before; superblock = s; scan = it } in
    onto i j zone no_records it log s.sequence two fills.differs.geometry
    (begun_log_is_passed_over i.geometry two.before two.after it log new greatest (ap (select_log i.geometry) (sym two.was) ∙ h)
    (begins i.geometry (length two.before) it payload [] rest.end s next.size next.reads next.device) next.above
    (one_payload (length two.before) (0, payload) rest.end parts.1))

pub whole_snapshot : WholeSnapshot
unfolding scan
whole_snapshot i j zone log greatest payload snapshot s files h next fits reads fills =
    let block : ℕ = i.geometry.block in
    let n : ℕ = blocks_of block (length payload) in
    let it : Scan = record { payloads = (0, payload) ∷ (n, snapshot) ∷ []; end = Clean } in
    let is : scan block (record_blocks block payload ++ record_blocks block snapshot) ≡ it =
    record_is_found block 0 payload (record_blocks block snapshot) next.fits
    ∙ (ap (with_payload 0 payload) (scan_record block (0 + n) snapshot fits) ∙ ap (λ m. record { payloads = (0, payload) ∷ (m, snapshot) ∷ []; end = Clean }) (omega arith)) in
    let two : TwoImages zone no_records it i j = filled_images zone (record_blocks block payload ++ record_blocks block snapshot) it i j fills is in
    let new : LogAt = record { zone = zone; superblock = s; scan = it } in
    onto i j zone no_records it new s.sequence two fills.differs.geometry
    (complete_log_is_selected i.geometry two.before two.after it log new greatest (ap (select_log i.geometry) (sym two.was) ∙ h)
    (ap (λ z. log_of_zone i.geometry z it it.payloads it.end) two.at ∙ begins i.geometry zone it payload ((n, snapshot) ∷ []) Clean s next.size next.reads next.device)
    next.above (ap (is_snapshot zone n) reads))

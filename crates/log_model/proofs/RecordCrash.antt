-- A crash within the append of a record to the log.
use Rattle.std.specs.Prelude.{◌≡◌, ℕ, zero, suc, ◌<◌, min, List, [], ◌∷◌, length, take, None, refl}
use Rattle.std.proofs.Common.{◌∙◌, ap, sym, subst, ⊎_elim, inl, inr, arith}
use Rattle.std.proofs.lemmas.Bool.{cases_lt}
use Rattle.std.proofs.lemmas.List.{take_all, append-nil}
use Rattle.zone_image.specs.Image.{Image, zone_at}
use Rattle.log_model.specs.LogScan.{blocks_of, record_blocks, scan}
use Rattle.log_model.specs.LogScan.ScanEnd.{Clean}
use Rattle.log_model.specs.ScanLaws.{is_bad, IsRecordOf}
use Rattle.log_model.specs.LogSelection.{LogAt, scans_of}
use Rattle.log_model.specs.FileTable.{Table}
use Rattle.log_model.specs.Mounted.{broken_rule}
use Rattle.log_model.specs.AppendLaws.{IsSelectedOn, AppendsTo}
use Rattle.log_model.specs.MountedLogLaws.{HasTable, MountsTable}
use Rattle.log_model.specs.CrashLaws.{RecordCrashMounts}
use Rattle.log_model.proofs.RecordLaws.{length_record}
use Rattle.log_model.proofs.AppendLaws.{selected_is_of_its_zone, own_zone, appended_as}
use Rattle.log_model.proofs.MountedLogLaws.{selected_table_mounts, record_mounts, part_mounts}
use Rattle.log_model.proofs.CrashLaws.{append_crash_leaves_part}

-- no items of none
take_none : {A : Type 0} (n : ℕ) → take {A = A} n [] ≡ []
take_none zero = refl
take_none (suc n) = refl

-- the first of the first items are the first items
pub take_twice : {A : Type 0} (m n : ℕ) (xs : List A) → take m (take n xs) ≡ take (min m n) xs
take_twice zero n xs = let none : 0 ≡ min 0 n = omega arith in ap (λ k. take k xs) none
take_twice (suc m) zero xs = let none : 0 ≡ min (suc m) 0 = omega arith in ap (λ k. take k xs) none
take_twice (suc m) (suc n) [] = sym (take_none (min (suc m) (suc n)))
take_twice (suc m) (suc n) (x ∷ xs) =
    let more : suc (min m n) ≡ min (suc m) (suc n) = omega arith in
    ap (λ ys. x ∷ ys) (take_twice m n xs) ∙ ap (λ k. take k (x ∷ xs)) more

-- without a block of it the log is as it was
none_selected : (i j : Image) (log : LogAt) (greatest : ℕ) → IsSelectedOn i log greatest → log.scan.end ≡ Clean → AppendsTo log.zone [] i j → IsSelectedOn j log greatest
none_selected i j log greatest h clean appends =
    appended_as i j log greatest [] log.scan [] h appends
    (ap (scan i.geometry.block) (append-nil (zone_at i log.zone).blocks) ∙ sym (own_zone i log greatest h))
    (append-nil log.scan.payloads) (ap is_bad clean)

-- what some blocks of the record leave
part_left_mounts : (i j : Image) (log : LogAt) (greatest k : ℕ) (payload : List ℕ) (es : Table) → HasTable i log greatest es → log.scan.end ≡ Clean
    → IsRecordOf i.geometry.block payload → k < blocks_of i.geometry.block (length payload) → AppendsTo log.zone (take k (record_blocks i.geometry.block payload)) i j
    → broken_rule j es ≡ None → MountsTable j es
part_left_mounts i j log greatest zero payload es h clean fits less appends ok =
    selected_table_mounts j log greatest es (record { selected = none_selected i j log greatest h.selected clean appends; table = h.table }) ok
part_left_mounts i j log greatest (suc k) payload es h clean fits less appends ok =
    part_mounts i j log greatest (suc k) payload es h clean fits (omega arith) less appends ok

pub record_crash_mounts : RecordCrashMounts
record_crash_mounts i j log greatest payload r es next h clean none fits reads after durable zones passed =
    let blocks : List (List ℕ) = record_blocks i.geometry.block payload in
    let zone : log.zone < 3 = (selected_is_of_its_zone i.geometry (scans_of i) log greatest h.selected).0 in
    let left = append_crash_leaves_part i j log.zone (take passed.count blocks) (omega arith) durable zone passed.crash in
    let k : ℕ = min left.0 passed.count in
    let appends : AppendsTo log.zone (take k blocks) i j = subst (λ more. AppendsTo log.zone more i j) (take_twice left.0 passed.count blocks) left.2 in
    ⊎_elim
    (λ less. inl (part_left_mounts i j log greatest k payload es h clean fits less appends))
    (λ whole.
    let all : take k blocks ≡ blocks = take_all k blocks (omega (arith, length_record i.geometry.block payload)) in
    inr (record_mounts i j log greatest payload r es next h clean none fits reads after (subst (λ more. AppendsTo log.zone more i j) all appends)))
    (cases_lt k (blocks_of i.geometry.block (length payload)))

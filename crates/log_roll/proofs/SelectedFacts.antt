-- What is known of a log that is selected.
use Rattle.std.specs.Prelude.{◌≡◌, ◌≢◌, ℕ, ◌+◌, Bool, true, false, cond, List, [], ◌∷◌, length, Option, Some, None, Result, Ok, Err, IsOk, ◌==◌, filter, refl}
use Rattle.std.specs.Str.{bytes_eq}
use Rattle.std.proofs.Common.{◌∙◌, ap, sym, subst, arith}
use Rattle.std.proofs.lemmas.Bool.{false_from_ne_true}
use Rattle.std.proofs.lemmas.Slice.Eq.{bytes_eq-Decides}
use Rattle.zone_image.specs.declared.Geometry.{Geometry}
use Rattle.zone_image.specs.Image.{Image}
use Rattle.record_model.specs.FieldDecoding.{◌>>=◌}
use Rattle.record_model.specs.Decoding.{record_of}
use Rattle.record_model.specs.Numbers.{u32}
use Rattle.record_model.specs.declared.types.FileEntry.{FileEntry}
use Rattle.record_model.specs.declared.types.Record.TheVariants.{Snapshot}
use Rattle.superblock_core.specs.Superblock.{superblock_of}
use Rattle.superblock_core.specs.declared.superblock.Superblock.{Superblock}
use Rattle.superblock_core.specs.declared.superblock.SbError.{SbError}
use Rattle.superblock_core.specs.declared.superblock.SbError.TheVariants.{Magic, Version, Flags, Text}
use Rattle.log_model.specs.declared.selection.Chosen.{Chosen}
use Rattle.log_model.specs.declared.selection.Refusal.{Refusal}
use Rattle.log_model.specs.LogScan.{Scan, ScanEnd}
use Rattle.log_model.specs.LogScan.ScanEnd.{Clean, Torn, Bad}
use Rattle.log_model.specs.LogSelection.{LogAt, fits_device, log_with, log_of_zone, logs_from, add_log, counts, newest, select_log, selected_log, scans_of, chosen_of}
use Rattle.log_model.specs.AppendLaws.{IsSelectedOn}
use Rattle.log_model.proofs.SelectionLaws.{undamaged_is}
use Rattle.log_model.proofs.SelectedLog.{Selected, selected_from, went_on, ok_is}
use Rattle.log_model.proofs.GrowingLog.{Each, each_filter, newest_has}

-- a log that is selected, with what is told of it
pub record Selection (i : Image) (old : Chosen) : Type 0 where
  pub log : LogAt
  pub greatest : ℕ
  pub selected : IsSelectedOn i log greatest
  pub told : chosen_of (log, greatest) ≡ old

pub selection_of : (i : Image) (old : Chosen) → selected_log i ≡ Ok old → Selection i old
selection_of i old h =
    let l = went_on (select_log i.geometry (scans_of i)) (λ l. Ok (chosen_of l)) old h in
    record { log = l.0.0; greatest = l.0.1; selected = l.1; told = ok_is l.2 }

-- an answer that is an Ok has a value
pub ok_value : {A E : Type 0} (r : Result A E) → IsOk r → (x : A) × (r ≡ Ok x)
ok_value (Ok x) h = (x, refl)
ok_value (Err e) h = cc

pub selection_there : (i : Image) → IsOk (selected_log i) → (old : Chosen) × Selection i old
selection_there i h = let v = ok_value (selected_log i) h in (v.0, selection_of i v.0 v.1)

-- a fitting superblock fits
fitting : (fits : Bool) (g : Geometry) (zone : ℕ) (s : Superblock) (c : Scan) (why : Refusal) (log : LogAt) → fits_device g s ≡ fits
    → cond {A = Result (Option LogAt) Refusal} fits (Ok (Some (record { zone = zone; superblock = s; scan = c }))) (Err why) ≡ Ok (Some log) → fits_device g log.superblock ≡ true
fitting true g zone s c why log test h =
    let same : ◌≡◌ {A = LogAt} (record { zone = zone; superblock = s; scan = c }) log = cc in
    ap (λ (l : LogAt). fits_device g l.superblock) (sym same) ∙ test
fitting false g zone s c why log test h = cc

read_fits : (g : Geometry) (zone : ℕ) (c : Scan) (payload : List ℕ) (r : Result Superblock SbError) (log : LogAt) → log_with g zone c payload r ≡ Ok (Some log) → fits_device g log.superblock ≡ true
read_fits g zone c payload (Err Magic) log h = cc
read_fits g zone c payload (Err (Version found)) log h = cc
read_fits g zone c payload (Err (Flags found)) log h = cc
read_fits g zone c payload (Err (Text at)) log h = cc
read_fits g zone c payload (Ok s) log h = fitting (fits_device g s) g zone s c _ log refl h

sized_fits : (sized : Bool) (g : Geometry) (zone : ℕ) (c : Scan) (payload : List ℕ) (r : Result Superblock SbError) (log : LogAt)
    → cond sized (log_with g zone c payload r) (Ok None) ≡ Ok (Some log) → fits_device g log.superblock ≡ true
sized_fits true g zone c payload r log h = read_fits g zone c payload r log h
sized_fits false g zone c payload r log h = cc

log_fits : (g : Geometry) (zone : ℕ) (c : Scan) (payloads : List (ℕ × List ℕ)) (end : ScanEnd) (log : LogAt) → log_of_zone g zone c payloads end ≡ Ok (Some log) → fits_device g log.superblock ≡ true
log_fits g zone c [] Clean log h = cc
log_fits g zone c [] (Torn block) log h = cc
log_fits g zone c [] (Bad block len stored computed) log h = cc
log_fits g zone c (p ∷ ps) end log h = sized_fits (length p.1 == 512) g zone c p.1 (superblock_of p.1) log h

-- one log more, or none
pub each_with : (P : LogAt → Type 0) (o : Option LogAt) (logs : List LogAt) → ((log : LogAt) → o ≡ Some log → P log) → Each P logs → Each P (add_log o logs)
each_with P None logs h g = g
each_with P (Some log) logs h g = (h log refl, g)

-- each log fits the device
each_fits : (g : Geometry) (zone : ℕ) (scans : List Scan) (logs : List LogAt) → logs_from g zone scans ≡ Ok logs → Each (λ l. fits_device g l.superblock ≡ true) logs
each_fits g zone [] logs h = subst (Each (λ l. fits_device g l.superblock ≡ true)) (ok_is h) tt
each_fits g zone (c ∷ cs) logs h =
    let first = went_on (log_of_zone g zone c c.payloads c.end) (λ log. logs_from g (zone + 1) cs >>= (λ others. Ok (add_log log others))) logs h in
    let others = went_on (logs_from g (zone + 1) cs) (λ os. Ok (add_log first.0 os)) logs first.2 in
    subst (Each (λ l. fits_device g l.superblock ≡ true)) (ok_is others.2)
    (each_with (λ l. fits_device g l.superblock ≡ true) first.0 others.0 (λ log is. log_fits g zone c c.payloads c.end log (first.1 ∙ ap Ok is)) (each_fits g (zone + 1) cs others.0 others.1))

-- the selected log fits it
pub selected_fits : (i : Image) (log : LogAt) (greatest : ℕ) → IsSelectedOn i log greatest → fits_device i.geometry log.superblock ≡ true
selected_fits i log greatest h =
    let s : Selected i.geometry (scans_of i) log greatest = selected_from i.geometry (scans_of i) log greatest h in
    newest_has (λ l. fits_device i.geometry l.superblock ≡ true) (filter counts s.logs) log
    (each_filter (λ l. fits_device i.geometry l.superblock ≡ true) s.logs (each_fits i.geometry 0 (scans_of i) s.logs s.found))
    (undamaged_is (newest (filter counts s.logs)) log s.current)

-- texts of other bytes aren't equal
bytes_differ : (xs ys : List ℕ) → xs ≢ ys → bytes_eq xs ys ≡ false
bytes_differ xs ys other = false_from_ne_true (bytes_eq xs ys) (λ same. other ((bytes_eq-Decides xs ys).0 same))

-- a superblock is no end record
pub long_is_no_end : (payload : List ℕ) → length payload ≡ 512 → bytes_eq payload (u32 4) ≡ false
long_is_no_end payload size = bytes_differ payload (u32 4) (λ same. absurd (omega (arith, size, ap (λ (bs : List ℕ). length bs) same)))

-- nor is a snapshot
pub snapshot_is_no_end : (payload : List ℕ) (files : List FileEntry) → record_of payload ≡ Ok (Snapshot files) → bytes_eq payload (u32 4) ≡ false
unfolding record_of
snapshot_is_no_end payload files reads =
    bytes_differ payload (u32 4)
    (λ same. let h : record_of (u32 4) ≡ Ok (Snapshot files) = ap record_of (sym same) ∙ reads in cc)

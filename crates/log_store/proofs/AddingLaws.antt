-- A record that is added to the log that counts.
use Rattle.std.specs.Prelude.{◌≡◌, ℕ, Bool, true, false, not, ◌&&◌, ◌||◌, List, [], ◌∷◌, ◌++◌, length, Result, Ok, refl}
use Rattle.std.specs.Str.{bytes_eq}
use Rattle.std.proofs.Common.{◌∙◌, ap, sym, subst, arith}
use Rattle.std.proofs.lemmas.Bool.{and_parts, false_from_ne_true}
use Rattle.std.proofs.lemmas.List.Folds.{list_any-append}
use Rattle.std.proofs.lemmas.Slice.Eq.{bytes_eq-Decides}
use Rattle.zone_image.specs.Image.{Image, zone_at}
use Rattle.zone_image.specs.Changes.{appended, synced}
use Rattle.zone_image.specs.Infos.{IsValidImage}
use Rattle.zone_image.specs.Moments.{PassedByAppend}
use Rattle.record_model.specs.Decoding.{record_of}
use Rattle.record_model.specs.FieldDecoding.{◌>>=◌}
use Rattle.record_model.specs.Numbers.{u32}
use Rattle.record_model.specs.declared.types.Record.{Record}
use Rattle.record_model.specs.declared.types.Record.TheVariants.{End}
use Rattle.record_model.specs.declared.fault.DecodeFault.{DecodeFault}
use Rattle.log_model.specs.declared.selection.Chosen.{Chosen}
use Rattle.log_model.specs.LogScan.{ScanEnd, has_end, is_clean, record_blocks}
use Rattle.log_model.specs.LogScan.ScanEnd.{Clean, Torn, Bad}
use Rattle.log_model.specs.LogSelection.{LogAt, chosen_of, selected_log}
use Rattle.log_model.specs.FileTable.{Table, is_end}
use Rattle.log_model.proofs.SelectedLog.{ok_is}
use Rattle.crash_cover.specs.AtRest.{IsAtRest, AddsRecord, with_record}
use Rattle.crash_cover.proofs.RecordRecovery.{record_moment_recovers}
use Rattle.crash_cover.proofs.StepLaws.{record_is_at_rest}
use Rattle.log_roll.proofs.RollFacts.{some_payload}
use Rattle.log_roll.proofs.RollSelects.{head_fits}
use Rattle.log_store.specs.Adding.{MakesTable, RestsWithRecord, GoesOn, LeftByRecord}

-- a clean end
clean_is : (end : ScanEnd) → is_clean end ≡ true → end ≡ Clean
clean_is Clean h = refl
clean_is (Torn block) h = cc
clean_is (Bad block len stored computed) h = cc

-- what isn't true is false
false_is : (b : Bool) → not b ≡ true → b ≡ false
false_is true h = cc
false_is false h = refl

-- a log that counts and may get more records
pub record IsOpen (chosen : Chosen) (log : LogAt) (greatest : ℕ) : Type 0 where
  pub told : chosen_of (log, greatest) ≡ chosen
  pub zone : log.zone ≡ chosen.zone
  pub clean : log.scan.end ≡ Clean
  pub goes_on : has_end log.scan.payloads ≡ false

-- the log of an image at rest is the one that is told
pub open_log : (i : Image) (chosen : Chosen) (log : LogAt) (greatest : ℕ) (es : Table) → selected_log i ≡ Ok chosen → chosen.can_end ≡ true → IsAtRest i log greatest es
    → IsOpen chosen log greatest
open_log i chosen log greatest es selected may rest =
    let told : chosen_of (log, greatest) ≡ chosen = ok_is (sym (ap (λ r. r >>= (λ l. Ok (chosen_of l))) rest.table.selected) ∙ selected) in
    let parts = and_parts (is_clean log.scan.end) (not (has_end log.scan.payloads)) (ap (λ (c : Chosen). c.can_end) told ∙ may) in
    record { told = told; zone = ap (λ (c : Chosen). c.zone) told; clean = clean_is log.scan.end parts.0; goes_on = false_is (has_end log.scan.payloads) parts.1 }

-- what a record adds that makes a table
pub adds_record : (i : Image) (chosen : Chosen) (log : LogAt) (greatest : ℕ) (blocks : List (List ℕ)) (payload : List ℕ) (es next : Table)
    (makes : MakesTable i log greatest blocks payload es next) → IsOpen chosen log greatest → AddsRecord i log payload makes.change es next
adds_record i chosen log greatest blocks payload es next makes is = record {
  clean = is.clean;
  goes_on = is.goes_on;
  fits = (head_fits i.geometry makes.rest.valid.possible.valid, omega (arith, some_payload payload makes.change makes.reads), makes.short);
  reads = makes.reads;
  after = makes.after;
}

-- a record that is added and made durable: the table that it makes is at rest
pub rests_with_record : (i : Image) (chosen : Chosen) (blocks : List (List ℕ)) → selected_log i ≡ Ok chosen → chosen.can_end ≡ true → IsValidImage (appended i chosen.zone blocks)
    → RestsWithRecord blocks i (synced (appended i chosen.zone blocks))
rests_with_record i chosen blocks selected may valid log greatest payload es next makes =
    let is = open_log i chosen log greatest es selected may makes.rest in
    let whole = record_blocks i.geometry.block payload in
    let image : appended i log.zone whole ≡ appended i chosen.zone blocks = ap (λ bs. appended i log.zone bs) (sym makes.spelled) ∙ ap (λ n. appended i n blocks) is.zone in
    subst (λ k. IsAtRest (synced k) (with_record i log payload) greatest next) image
    (record_is_at_rest i log greatest payload makes.change es next makes.rest (adds_record i chosen log greatest blocks payload es next makes is) makes.pinned
    (subst IsValidImage (sym image) valid))

-- a crash within its append leaves the table, or the one that it makes
pub left_by_append : (i : Image) (chosen : Chosen) (blocks : List (List ℕ)) → selected_log i ≡ Ok chosen → chosen.can_end ≡ true → IsValidImage (appended i chosen.zone blocks)
    → (j : Image) → PassedByAppend i chosen.zone blocks j → LeftByRecord blocks i j
left_by_append i chosen blocks selected may valid j passed log greatest payload es next makes =
    let is = open_log i chosen log greatest es selected may makes.rest in
    let whole = record_blocks i.geometry.block payload in
    let image : appended i log.zone whole ≡ appended i chosen.zone blocks = ap (λ bs. appended i log.zone bs) (sym makes.spelled) ∙ ap (λ n. appended i n blocks) is.zone in
    record_moment_recovers i j log greatest payload makes.change es next makes.rest (adds_record i chosen log greatest blocks payload es next makes is) makes.pinned
    (subst IsValidImage (sym image) valid)
    (subst (λ bs. PassedByAppend i log.zone bs j) makes.spelled (subst (λ n. PassedByAppend i n blocks j) (sym is.zone) passed))

-- an end record is no other record
no_end_bytes : (payload : List ℕ) (change : Record) → record_of payload ≡ Ok change → is_end change ≡ false → bytes_eq payload (u32 4) ≡ false
unfolding record_of
no_end_bytes payload change reads goes_on =
    false_from_ne_true (bytes_eq payload (u32 4))
    (λ equal.
    let same : payload ≡ u32 4 = (bytes_eq-Decides payload (u32 4)).0 equal in
    let end : ◌≡◌ {A = Result Record DecodeFault} (Ok End) (Ok change) = ap record_of (sym same) ∙ reads in
    let wrong : true ≡ false = ap is_end (ok_is end) ∙ goes_on in
    cc)

-- one payload more that is no end
end_behind_all : (payloads : List (ℕ × List ℕ)) (at : ℕ) (payload : List ℕ) → has_end payloads ≡ false → bytes_eq payload (u32 4) ≡ false → has_end (payloads ++ (at, payload) ∷ []) ≡ false
end_behind_all payloads at payload none other =
    list_any-append (λ (p : ℕ × List ℕ). bytes_eq p.1 (u32 4)) payloads ((at, payload) ∷ [])
    ∙ (ap (λ b. b || (bytes_eq payload (u32 4) || false)) none ∙ ap (λ b. b || false) other)

-- the same log counts, and may get more records
pub goes_on_with_record : (i : Image) (chosen : Chosen) (blocks : List (List ℕ)) → selected_log i ≡ Ok chosen → chosen.can_end ≡ true → IsValidImage (appended i chosen.zone blocks)
    → GoesOn chosen blocks i (synced (appended i chosen.zone blocks))
goes_on_with_record i chosen blocks selected may valid log greatest payload es next makes =
    let is = open_log i chosen log greatest es selected may makes.rest in
    let at : ℕ = length (zone_at i log.zone).blocks in
    let rest = rests_with_record i chosen blocks selected may valid log greatest payload es next makes in
    let none : has_end (log.scan.payloads ++ (at, payload) ∷ []) ≡ false =
    end_behind_all log.scan.payloads at payload is.goes_on (no_end_bytes payload makes.change makes.reads makes.goes_on) in
    let may_end : (is_clean log.scan.end && not (has_end log.scan.payloads)) ≡ true = ap (λ (c : Chosen). c.can_end) is.told ∙ may in
    ap (λ r. r >>= (λ l. Ok (chosen_of l))) rest.table.selected
    ∙ (ap (λ b. Ok (record { zone = log.zone; superblock = log.superblock; greatest = greatest; can_end = true && not b })) none
    ∙ (ap (λ b. Ok (record { zone = log.zone; superblock = log.superblock; greatest = greatest; can_end = b })) (sym may_end) ∙ ap (λ c. Ok c) is.told))

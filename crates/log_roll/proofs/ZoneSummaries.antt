-- What the choice of a log asks of a zone, by its first record and what stands behind it.
use Rattle.std.proofs.Common.{◌≡◌, ℕ, Bool, true, false, not, List, [], ◌∷◌, length, Option, Some, None, Result, Ok, Err, refl, ap, ◌∙◌, arith}
use Rattle.std.specs.Prelude.{◌&&◌, ◌||◌, cond, nat_eq}
use Rattle.std.specs.Str.{bytes_eq}
use Rattle.std.proofs.lemmas.Slice.Eq.{bytes_eq-Decides}
use Rattle.std.proofs.lemmas.Bool.{eqb-true, false_from_ne_true}
use Rattle.zone_image.specs.declared.Geometry.{Geometry}
use Rattle.record_model.specs.Numbers.{u32}
use Rattle.superblock_core.specs.Superblock.{superblock_of}
use Rattle.superblock_core.specs.declared.superblock.Superblock.{Superblock}
use Rattle.superblock_core.specs.declared.superblock.SbError.{SbError}
use Rattle.superblock_core.specs.declared.superblock.SbError.TheVariants.{Magic, Version, Flags, Text}
use Rattle.log_model.specs.declared.selection.Refusal.{Refusal}
use Rattle.log_model.specs.declared.selection.Refusal.TheVariants.{Differs}
use Rattle.log_model.specs.LogScan.{Scan, ScanEnd, has_end, is_clean, with_payload}
use Rattle.log_model.specs.LogScan.ScanEnd.{Clean, Torn, Bad}
use Rattle.log_model.specs.LogSelection.{fits_device, log_with, snapshot_in}
use Rattle.log_roll.specs.declared.summary.LogSummary.{LogSummary}
use Rattle.log_roll.specs.Records.{log_end_of}
use Rattle.log_roll.specs.Summaries.{log_of, summarised, summary_of, superblock_in, superblock_with, unless_bad, zone_summary}
use Rattle.log_roll.specs.Rests.{rest_of, snapshot_first}

-- a log of these
abbrev summary : ℕ → Superblock → Result Bool Refusal → Bool → LogSummary
summary zone s snapshot can_end = record { zone = zone; superblock = s; snapshot = snapshot; can_end = can_end }

-- a snapshot is sought behind the superblock
snapshot_behind : (zone : ℕ) (end : ScanEnd) (p : ℕ × List ℕ) (ps : List (ℕ × List ℕ)) → snapshot_in zone end (p ∷ ps) ≡ unless_bad zone (log_end_of end) (snapshot_first zone ps)
snapshot_behind zone Clean p [] = refl
snapshot_behind zone Clean p (q ∷ qs) = refl
snapshot_behind zone (Torn block) p [] = refl
snapshot_behind zone (Torn block) p (q ∷ qs) = refl
snapshot_behind zone (Bad block len stored computed) p [] = refl
snapshot_behind zone (Bad block len stored computed) p (q ∷ qs) = refl

-- the summary of a log that begins so
log_summary : (zone block : ℕ) (bytes : List ℕ) (s : Superblock) (rest : Scan) → bytes_eq bytes (u32 4) ≡ false
    → summary_of (record { zone = zone; superblock = s; scan = with_payload block bytes rest }) ≡ log_of zone s (rest_of zone rest)
log_summary zone block bytes s rest other =
    ap (λ there. summary zone s there (is_clean rest.end && not (bytes_eq bytes (u32 4) || has_end rest.payloads))) (snapshot_behind zone rest.end (block, bytes) rest.payloads)
    ∙ ap (λ b. summary zone s (unless_bad zone (log_end_of rest.end) (snapshot_first zone rest.payloads)) (is_clean rest.end && not (b || has_end rest.payloads))) other

-- the refusal of another device's superblock
abbrev differs : ℕ → Superblock → Refusal
differs zone s = Differs zone s.block s.zone_blocks s.zones

-- the zone's log, where its superblock may be another device's
fitting_summary : (zone block : ℕ) (bytes : List ℕ) (rest : Scan) (t s : Superblock) (fits : Bool) → bytes_eq bytes (u32 4) ≡ false
    → ◌≡◌ {A = Result (Option Superblock) Refusal} (cond fits (Ok (Some t)) (Err (differs zone t))) (Ok (Some s))
    → summarised (cond fits (Ok (Some (record { zone = zone; superblock = t; scan = with_payload block bytes rest }))) (Err (differs zone t))) ≡ Ok (Some (log_of zone s (rest_of zone rest)))
fitting_summary zone block bytes rest t s false other is = cc
fitting_summary zone block bytes rest t s true other is =
    let same : t ≡ s = cc in
    ap (λ l. Ok (Some l)) (log_summary zone block bytes t rest other) ∙ ap (λ u. Ok (Some (log_of zone u (rest_of zone rest)))) same

-- the zone's log by what its first payload is decoded as
decoded_summary : (g : Geometry) (zone block : ℕ) (bytes : List ℕ) (rest : Scan) (decoded : Result Superblock SbError) (s : Superblock) → bytes_eq bytes (u32 4) ≡ false
    → superblock_with g zone bytes decoded ≡ Ok (Some s) → summarised (log_with g zone (with_payload block bytes rest) bytes decoded) ≡ Ok (Some (log_of zone s (rest_of zone rest)))
decoded_summary g zone block bytes rest (Err Magic) s other h = cc
decoded_summary g zone block bytes rest (Err (Version found)) s other h = cc
decoded_summary g zone block bytes rest (Err (Flags found)) s other h = cc
decoded_summary g zone block bytes rest (Err (Text at)) s other h = cc
decoded_summary g zone block bytes rest (Ok t) s other h = fitting_summary zone block bytes rest t s (fits_device g t) other h

-- four bytes aren't 512
not_an_end : (bytes : List ℕ) → length bytes ≡ 512 → bytes_eq bytes (u32 4) ≡ false
not_an_end bytes long =
    false_from_ne_true (bytes_eq bytes (u32 4)) (λ yes.
    let same : length bytes ≡ length (u32 4) = ap length ((bytes_eq-Decides bytes (u32 4)).0 yes) in
    let four : length (u32 4) ≡ 4 = refl in
    omega arith)

-- the zone's log by its first payload
first_summary : (g : Geometry) (zone block : ℕ) (bytes : List ℕ) (rest : Scan) (s : Superblock) (long : Bool) → nat_eq (length bytes) 512 ≡ long
    → cond long (superblock_with g zone bytes (superblock_of bytes)) (Ok None) ≡ Ok (Some s)
    → summarised (cond long (log_with g zone (with_payload block bytes rest) bytes (superblock_of bytes)) (Ok None)) ≡ Ok (Some (log_of zone s (rest_of zone rest)))
first_summary g zone block bytes rest s false is h = cc
first_summary g zone block bytes rest s true is h = decoded_summary g zone block bytes rest (superblock_of bytes) s (not_an_end bytes (eqb-true (length bytes) 512 is)) h

-- a zone that begins with a superblock of this device has its log
pub log_begins : (g : Geometry) (zone block : ℕ) (bytes : List ℕ) (whole rest : Scan) (s : Superblock) → whole ≡ with_payload block bytes rest → superblock_in g zone bytes ≡ Ok (Some s)
    → zone_summary g zone whole ≡ Ok (Some (log_of zone s (rest_of zone rest)))
log_begins g zone block bytes whole rest s is h = ap (zone_summary g zone) is ∙ first_summary g zone block bytes rest s (nat_eq (length bytes) 512) refl h

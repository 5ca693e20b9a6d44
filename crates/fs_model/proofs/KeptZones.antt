-- Steps on zones and on the log leave held data zones alone.
use Rattle.std.specs.Prelude.{◌≡◌, ◌≢◌, ℕ, zero, suc, ◌+◌, ◌%◌, ◌≤◌, ◌<◌, Bool, true, false, not, ◌&&◌, ◌==◌, nat_lt, List, [], ◌∷◌, filter, refl, if◌then◌else◌}
use Rattle.std.specs.List.{AllByRecursion}
use Rattle.std.proofs.Common.{sym, ap, subst, arith}
use Rattle.log_model.specs.Headroom.{superblock_blocks, snapshot_blocks}
use Rattle.fs_model.specs.ZonePolicy.{is_idle_owner}
use Rattle.fs_model.specs.FsState.{FsState, ZoneDescriptor, descriptor_at, descriptor_in, on_descriptor, recorded, room_in}
use Rattle.log_model.specs.declared.selection.Chosen.{Chosen}
use Rattle.fs_model.specs.Trace.{step, from_state, when, each}
use Rattle.fs_model.specs.LogSteps.{set_descriptor, after_append, append_blocks, finish_zone, reset_zone, is_used, reset_if_used, finish_if_open, end_log, next_log, other_zones, roll_from, roll, must_roll, add_record}
use Rattle.fs_model.specs.Untouched.{is_one_of}
use Rattle.fs_model.proofs.KeptStates.{Keeps, keeps_done, keeps_step, keeps_from, keeps_given, keeps_when, keeps_then, files_stay}

-- a change of one zone leaves the others
other_zone : (n k : ℕ) (f : ZoneDescriptor → ZoneDescriptor) (zs : List ZoneDescriptor) → k ≢ n → descriptor_in (on_descriptor n f zs) k ≡ descriptor_in zs k
other_zone n k f [] away = refl
other_zone zero zero f (z ∷ zs) away = absurd (away refl)
other_zone zero (suc k) f (z ∷ zs) away = refl
other_zone (suc n) zero f (z ∷ zs) away = refl
other_zone (suc n) (suc k) f (z ∷ zs) away = other_zone n k f zs (λ same. away (ap (λ i. suc i) same))

-- no rule of this crate keeps the zone as it is: it is one of metadata, or named, or nobody holds it
abbrev IsFree : List ℕ → FsState → ℕ → Type 0
IsFree zones s n = 3 ≤ n → is_one_of zones n ≡ false → is_idle_owner (descriptor_at s n).owner ≡ false → ⊥

-- a zone of metadata
free_metadata : (zones : List ℕ) (s : FsState) (n : ℕ) → n < 3 → IsFree zones s n
free_metadata zones s n low data_zone = absurd (omega arith)

-- a change of such a zone
pub keeps_zone : {zones ids : List ℕ} {s : FsState} → (n : ℕ) (f : ZoneDescriptor → ZoneDescriptor) → IsFree zones s n → Keeps zones ids (set_descriptor n f) s
keeps_zone {zones = zones} {ids = ids} {s = s} n f free =
    keeps_step (λ t. record t { zones = on_descriptor n f t.zones }) (λ low. record {
      log = low;
      zones = λ k data_zone out held.
          other_zone n k f s.zones (λ same. let P : ℕ → Type 0 = λ i. IsFree zones s i in subst P (sym same) free data_zone out held);
      files = files_stay ids s.rows;
    })

-- an append to such a zone
pub keeps_append : {zones ids : List ℕ} {s : FsState} → (n k : ℕ) → IsFree zones s n → Keeps zones ids (append_blocks n k) s
keeps_append {s = s} n k free = keeps_from (λ t. set_descriptor n (after_append t.geometry.capacity k)) (keeps_zone n (after_append s.geometry.capacity k) free)

-- a reset of such a zone
pub keeps_reset : {zones ids : List ℕ} {s : FsState} → (n : ℕ) → IsFree zones s n → Keeps zones ids (reset_zone n) s
keeps_reset n free = keeps_zone n _ free

-- a finish of such a zone
pub keeps_finish : {zones ids : List ℕ} {s : FsState} → (n : ℕ) → IsFree zones s n → Keeps zones ids (finish_zone n) s
keeps_finish n free = keeps_zone n _ free

-- ---- the log

-- the other zones of metadata are reset where they have something
keeps_resets_used : {zones ids : List ℕ} → (ns : List ℕ) (s : FsState) → AllByRecursion (λ n. n < 3) ns → Keeps zones ids (each reset_if_used ns) s
keeps_resets_used [] s low = keeps_done tt
keeps_resets_used {zones = zones} (n ∷ ns) s low =
    keeps_then
    (keeps_from (λ t. when (is_used (descriptor_at t n)) (reset_zone n))
    (keeps_when (is_used (descriptor_at s n)) (λ _. keeps_reset n (free_metadata zones s n low.0))))
    (keeps_resets_used ns (reset_if_used n s).last low.1)

-- the numbers of zones of metadata
others_low : (zone : ℕ) → AllByRecursion (λ n. n < 3) (other_zones zone)
others_low zone = kept (λ n. not (n == zone)) (0 ∷ 1 ∷ 2 ∷ []) (omega arith, (omega arith, (omega arith, tt)))
  where
    kept : (test : ℕ → Bool) (ns : List ℕ) → AllByRecursion (λ n. n < 3) ns → AllByRecursion (λ n. n < 3) (filter test ns)
    kept test [] h = tt
    kept test (n ∷ ns) h = pick (test n) n (filter test ns) h.0 (kept test ns h.1)
      where
        pick : (b : Bool) (n : ℕ) (rest : List ℕ) → n < 3 → AllByRecursion (λ i. i < 3) rest → AllByRecursion (λ i. i < 3) (if b then n ∷ rest else rest)
        pick true n rest a r = (a, r)
        pick false n rest a r = r

-- an append to a zone of metadata
keeps_log_append : {zones ids : List ℕ} → (n k : ℕ) → n < 3 → (s : FsState) → Keeps zones ids (append_blocks n k) s
keeps_log_append {zones = zones} n k low s = keeps_append n k (free_metadata zones s n low)

-- a reset of one
keeps_log_reset : {zones ids : List ℕ} → (n : ℕ) → n < 3 → (s : FsState) → Keeps zones ids (reset_zone n) s
keeps_log_reset {zones = zones} n low s = keeps_reset n (free_metadata zones s n low)

-- an end record
keeps_end : {zones ids : List ℕ} → (s : FsState) → Keeps zones ids end_log s
keeps_end s =
    keeps_from (λ t. when (t.log.can_end && nat_lt 0 (room_in t t.log.zone)) (append_blocks t.log.zone 1))
    (keeps_when (s.log.can_end && nat_lt 0 (room_in s s.log.zone)) (λ _. keeps_given (λ low. keeps_log_append s.log.zone 1 low s)))

-- a finish of a zone of metadata
keeps_log_finish : {zones ids : List ℕ} → (n : ℕ) → n < 3 → (s : FsState) → Keeps zones ids (finish_if_open n) s
keeps_log_finish {zones = zones} n low s =
    keeps_from (λ t. when (not (descriptor_at t n).info.sealed) (finish_zone n))
    (keeps_when (not (descriptor_at s n).info.sealed) (λ _. keeps_finish n (free_metadata zones s n low)))

-- the log is another
keeps_log : {zones ids : List ℕ} → (log : Chosen) → log.zone < 3 → (s : FsState) → Keeps zones ids (step (λ t. record t { log = log })) s
keeps_log {ids = ids} log low s =
    keeps_step (λ t. record t { log = log }) (λ _. record { log = low; zones = λ n data_zone out held. refl; files = files_stay ids s.rows })

-- the number of the next log's zone
next_low : (n : ℕ) → (n + 1) % 3 < 3
next_low n = omega arith

-- a roll
pub keeps_roll : {zones ids : List ℕ} → (s : FsState) → Keeps zones ids roll s
unfolding roll
keeps_roll s = keeps_from roll_from (keeps_given (λ low.
    keeps_then (keeps_then (keeps_then (keeps_then (keeps_then (keeps_then
    (keeps_resets_used (other_zones s.log.zone) s (others_low s.log.zone))
    (keeps_end _))
    (keeps_log_finish s.log.zone low _))
    (keeps_log_append (next_log s).zone (superblock_blocks s.geometry.block) (next_low s.log.zone) _))
    (keeps_log_append (next_log s).zone (snapshot_blocks s.geometry.block (recorded s)) (next_low s.log.zone) _))
    (keeps_log_reset s.log.zone low _))
    (keeps_log (next_log s) (next_low s.log.zone) _)))

-- a record that is added, after a roll where it must
pub keeps_record : {zones ids : List ℕ} → (blocks : ℕ) (s : FsState) → Keeps zones ids (add_record blocks) s
keeps_record blocks s =
    keeps_then
    (keeps_from (λ t. when (must_roll t blocks) roll) (keeps_when (must_roll s blocks) (λ _. keeps_roll s)))
    (adds _)
  where
    adds : {zones ids : List ℕ} → (t : FsState) → Keeps zones ids (from_state (λ u. append_blocks u.log.zone blocks)) t
    adds t = keeps_from (λ u. append_blocks u.log.zone blocks) (keeps_given (λ low. keeps_log_append t.log.zone blocks low t))

-- The room in the new log's zone behind a roll.
use Rattle.std.specs.Prelude.{◌≡◌, ◌≢◌, ℕ, zero, suc, ◌+◌, ◌%◌, ◌<◌, ◌≤◌, Bool, true, false, not, ◌&&◌, ◌||◌, ◌==◌, List, [], ◌∷◌, length, Ok, nat_lt, refl}
use Rattle.std.proofs.Common.{sym, ◌∙◌, ap, subst, arith}
use Rattle.std.proofs.lemmas.Bool.{or_parts, ltb-false, ne_eqb}
use Rattle.zone_image.specs.declared.ZoneInfo.{ZoneInfo}
use Rattle.log_model.specs.Headroom.{superblock_blocks, snapshot_blocks}
use Rattle.fs_model.specs.FsState.{FsState, ZoneDescriptor, descriptor_at, descriptor_in, on_descriptor, recorded, room_in}
use Rattle.fs_model.specs.Trace.{◌>>◌, when, each, step}
use Rattle.fs_model.specs.LogSteps.{FsAction, NoValue, set_descriptor, after_append, append_blocks, reset_zone, is_used, reset_if_used, finish_if_open, next_log, other_zones, end_log, roll}
use Rattle.change_steps.specs.Recording.{after_roll}
use Rattle.change_steps.proofs.Traces.{ok_then}

-- ---- zones by number

-- a change of one zone leaves the others
pub other_zone : (n k : ℕ) (f : ZoneDescriptor → ZoneDescriptor) (zs : List ZoneDescriptor) → k ≢ n → descriptor_in (on_descriptor n f zs) k ≡ descriptor_in zs k
other_zone n k f [] away = refl
other_zone zero zero f (z ∷ zs) away = absurd (away refl)
other_zone zero (suc k) f (z ∷ zs) away = refl
other_zone (suc n) zero f (z ∷ zs) away = refl
other_zone (suc n) (suc k) f (z ∷ zs) away = other_zone n k f zs (λ same. away (ap (λ i. suc i) same))

-- it changes that zone
this_zone : (n : ℕ) (f : ZoneDescriptor → ZoneDescriptor) (zs : List ZoneDescriptor) → n < length zs → descriptor_in (on_descriptor n f zs) n ≡ f (descriptor_in zs n)
this_zone n f [] long = absurd (omega arith)
this_zone zero f (z ∷ zs) long = refl
this_zone (suc n) f (z ∷ zs) long = this_zone n f zs (omega arith)

-- and their number stays
pub zone_count : (n : ℕ) (f : ZoneDescriptor → ZoneDescriptor) (zs : List ZoneDescriptor) → length (on_descriptor n f zs) ≡ length zs
zone_count n f [] = refl
zone_count zero f (z ∷ zs) = refl
zone_count (suc n) f (z ∷ zs) = ap (λ k. suc k) (zone_count n f zs)

-- ---- actions that lead from one fact to another

-- an action is never refused where a fact holds, and makes another one hold
pub record Leads (m : FsAction NoValue) (P Q : FsState → Type 0) : Type 0 where
  pub run : (s : FsState) → P s → ((m s).answer ≡ Ok tt) × Q (m s).last

-- one after another
pub leads_then : (P Q R : FsState → Type 0) (m n : FsAction NoValue) → Leads m P Q → Leads n Q R → Leads (m >> n) P R
leads_then P Q R m n a b = record {
  run = λ s p.
      let first = a.run s p in
      let second = b.run (m s).last first.1 in
      let both = ok_then m n s (m s).last (n (m s).last).last tt (first.0, refl) (second.0, refl) in
      (both.0, subst R both.1 second.1);
}

-- only where a test says so
when_leads : (P Q : FsState → Type 0) (b : Bool) (m : FsAction NoValue) (s : FsState) → P s → (b ≡ true → ((m s).answer ≡ Ok tt) × Q (m s).last) → (b ≡ false → Q s)
    → ((when b m s).answer ≡ Ok tt) × Q (when b m s).last
when_leads P Q true m s p done still = done refl
when_leads P Q false m s p done still = (refl, still refl)

-- ---- the zone of the new log

-- a zone with so many blocks that isn't sealed
abbrev pub holding : ℕ → ZoneInfo
holding k = record { written = k; sealed = false }

-- geometry and log are those of u, and there is such a zone
pub record Has (u : FsState) (n : ℕ) (t : FsState) : Type 0 where
  pub geometry : t.geometry ≡ u.geometry
  pub log : t.log ≡ u.log
  pub long : n < length t.zones

-- which holds so many blocks
pub record Holds (u : FsState) (n k : ℕ) (t : FsState) : Type 0 where
  pub has : Has u n t
  pub info : (descriptor_at t n).info ≡ holding k

-- a change of any zone leaves it there
has_still : (u : FsState) (n m : ℕ) (f : ZoneDescriptor → ZoneDescriptor) (t : FsState) → Has u n t → Has u n (record t { zones = on_descriptor m f t.zones })
has_still u n m f t has = record {
  geometry = has.geometry;
  log = has.log;
  long = let same : length (on_descriptor m f t.zones) ≡ length t.zones = zone_count m f t.zones in omega (arith, same, has.long);
}

-- a change of another zone leaves what it holds
holds_still : (u : FsState) (n k m : ℕ) (f : ZoneDescriptor → ZoneDescriptor) (t : FsState) → n ≢ m → Holds u n k t → Holds u n k (record t { zones = on_descriptor m f t.zones })
holds_still u n k m f t away h = record {
  has = has_still u n m f t h.has;
  info = ap (λ (z : ZoneDescriptor). z.info) (other_zone m n f t.zones away) ∙ h.info;
}

-- a change of it makes it hold what it says
holds_now : (u : FsState) (n k : ℕ) (f : ZoneDescriptor → ZoneDescriptor) (t : FsState) → Has u n t → (f (descriptor_at t n)).info ≡ holding k
    → Holds u n k (record t { zones = on_descriptor n f t.zones })
holds_now u n k f t has is = record {
  has = has_still u n n f t has;
  info = ap (λ (z : ZoneDescriptor). z.info) (this_zone n f t.zones has.long) ∙ is;
}

-- ---- the steps of a roll

-- a zone that isn't used is empty
unused_is_empty : (info : ZoneInfo) → (nat_lt 0 info.written || info.sealed) ≡ false → info ≡ holding 0
unused_is_empty info unused =
    let parts = or_parts (nat_lt 0 info.written) info.sealed unused in
    let none : info.written ≤ 0 = ltb-false 0 info.written parts.0 in
    let no_blocks : info.written ≡ 0 = omega arith in
    let of : ℕ → Bool → ZoneInfo = λ n b. record { written = n; sealed = b } in
    ap (λ n. of n info.sealed) no_blocks ∙ ap (of 0) parts.1

-- it is emptied where it is used
emptied : (u : FsState) (n : ℕ) → Leads (reset_if_used n) (Has u n) (Holds u n 0)
emptied u n = record {
  run = λ t has.
      when_leads (Has u n) (Holds u n 0) (is_used (descriptor_at t n)) (reset_zone n) t has
      (λ _. (refl, holds_now u n 0 (λ z. record z { info = record { written = 0; sealed = false } }) t has refl))
      (λ unused. record { has = has; info = unused_is_empty (descriptor_at t n).info unused });
}

-- another zone may be emptied before
before_emptied : (u : FsState) (n m : ℕ) → Leads (reset_if_used m) (Has u n) (Has u n)
before_emptied u n m = record {
  run = λ t has.
      when_leads (Has u n) (Has u n) (is_used (descriptor_at t m)) (reset_zone m) t has
      (λ _. (refl, has_still u n m (λ z. record z { info = record { written = 0; sealed = false } }) t has)) (λ _. has);
}

-- and behind
behind_emptied : (u : FsState) (n k m : ℕ) → n ≢ m → Leads (reset_if_used m) (Holds u n k) (Holds u n k)
behind_emptied u n k m away = record {
  run = λ t h.
      when_leads (Holds u n k) (Holds u n k) (is_used (descriptor_at t m)) (reset_zone m) t h
      (λ _. (refl, holds_still u n k m (λ z. record z { info = record { written = 0; sealed = false } }) t away h)) (λ _. h);
}

-- nothing more
nothing_leads : (P : FsState → Type 0) → Leads (each reset_if_used []) P P
nothing_leads P = record { run = λ s p. (refl, p) }

-- of two zones, the first is it
first_emptied : (u : FsState) (n m : ℕ) → n ≢ m → Leads (each reset_if_used (n ∷ m ∷ [])) (Has u n) (Holds u n 0)
first_emptied u n m away =
    leads_then (Has u n) (Holds u n 0) (Holds u n 0) (reset_if_used n) (each reset_if_used (m ∷ [])) (emptied u n)
    (leads_then (Holds u n 0) (Holds u n 0) (Holds u n 0) (reset_if_used m) (each reset_if_used []) (behind_emptied u n 0 m away) (nothing_leads (Holds u n 0)))

-- or the second
second_emptied : (u : FsState) (n m : ℕ) → Leads (each reset_if_used (m ∷ n ∷ [])) (Has u n) (Holds u n 0)
second_emptied u n m =
    leads_then (Has u n) (Has u n) (Holds u n 0) (reset_if_used m) (each reset_if_used (n ∷ [])) (before_emptied u n m)
    (leads_then (Has u n) (Holds u n 0) (Holds u n 0) (reset_if_used n) (each reset_if_used []) (emptied u n) (nothing_leads (Holds u n 0)))

-- the next zone is one of the other two
others_emptied : (u : FsState) (old : ℕ) → old < 3 → Leads (each reset_if_used (other_zones old)) (Has u ((old + 1) % 3)) (Holds u ((old + 1) % 3) 0)
others_emptied u zero low = first_emptied u 1 2 (λ is. omega (arith, is))
others_emptied u (suc zero) low = second_emptied u 2 0
others_emptied u (suc (suc zero)) low = first_emptied u 0 1 (λ is. omega (arith, is))
others_emptied u (suc (suc (suc n))) low = absurd (omega arith)

-- the old log is ended
ended : (u : FsState) (n k : ℕ) → n ≢ u.log.zone → Leads end_log (Holds u n k) (Holds u n k)
ended u n k away = record {
  run = λ t h.
      let elsewhere : n ≢ t.log.zone = λ is. away (is ∙ ap (λ l. l.zone) h.has.log) in
      when_leads (Holds u n k) (Holds u n k) (t.log.can_end && nat_lt 0 (room_in t t.log.zone)) (append_blocks t.log.zone 1) t h
      (λ _. (refl, holds_still u n k t.log.zone (after_append t.geometry.capacity 1) t elsewhere h)) (λ _. h);
}

-- and sealed
sealed_off : (u : FsState) (n k m : ℕ) → n ≢ m → Leads (finish_if_open m) (Holds u n k) (Holds u n k)
sealed_off u n k m away = record {
  run = λ t h.
      when_leads (Holds u n k) (Holds u n k) (not (descriptor_at t m).info.sealed) (set_descriptor m (λ z. record z { info = record { written = z.info.written; sealed = true } })) t h
      (λ _. (refl, holds_still u n k m (λ z. record z { info = record { written = z.info.written; sealed = true } }) t away h)) (λ _. h);
}

-- blocks more that are fewer than the capacity
more_held : (capacity k j total : ℕ) → total ≡ k + j → total < capacity → (record { written = total; sealed = false || (total == capacity) }) ≡ holding (k + j)
more_held capacity k j total is less =
    let open_yet : (total == capacity) ≡ false = ne_eqb total capacity (λ full. omega arith) in
    let of : ℕ → Bool → ZoneInfo = λ n b. record { written = n; sealed = b } in
    ap (of total) open_yet ∙ ap (λ n. of n false) is

-- the zone after an append
append_held : (capacity k j : ℕ) (z : ZoneDescriptor) → z.info ≡ holding k → k + j < capacity → (after_append capacity j z).info ≡ holding (k + j)
append_held capacity k j z is less =
    let of : ZoneInfo → ZoneInfo = λ i. record { written = i.written + j; sealed = i.sealed || (i.written + j == capacity) } in
    ap of is ∙ more_held capacity k j (k + j) refl less

-- blocks are appended to it
appended : (u : FsState) (n k j : ℕ) → k + j < u.geometry.capacity → Leads (append_blocks n j) (Holds u n k) (Holds u n (k + j))
appended u n k j less = record {
  run = λ t h.
      let fits : k + j < t.geometry.capacity = subst (λ g. k + j < g.capacity) (sym h.has.geometry) less in
      (refl, holds_now u n (k + j) (after_append t.geometry.capacity j) t h.has (append_held t.geometry.capacity k j (descriptor_at t n) h.info fits));
}

-- the old zone is emptied
old_emptied : (u : FsState) (n k m : ℕ) → n ≢ m → Leads (reset_zone m) (Holds u n k) (Holds u n k)
old_emptied u n k m away = record { run = λ t h. (refl, holds_still u n k m (λ z. record z { info = record { written = 0; sealed = false } }) t away h) }

-- ---- a roll

-- a roll from u has made the log, and its zone holds so many blocks
pub record Rolled (u : FsState) (n k : ℕ) (t : FsState) : Type 0 where
  pub log : t.log ≡ next_log u
  pub info : (descriptor_at t n).info ≡ holding k

-- the new log is taken
log_taken : (u : FsState) (n k : ℕ) → Leads (step (λ t. record t { log = next_log u })) (Holds u n k) (Rolled u n k)
log_taken u n k = record { run = λ t h. (refl, record { log = refl; info = h.info }) }

-- the blocks of the new log
abbrev pub log_blocks : FsState → ℕ
log_blocks u = superblock_blocks u.geometry.block + snapshot_blocks u.geometry.block (recorded u)

-- the steps of a roll
steps_lead : (u : FsState) (n k j : ℕ) → n ≢ u.log.zone → k + j < u.geometry.capacity → Leads (each reset_if_used (other_zones u.log.zone)) (Has u n) (Holds u n 0)
    → Leads
    (each reset_if_used (other_zones u.log.zone) >> end_log >> finish_if_open u.log.zone >> append_blocks n k >> append_blocks n j >> reset_zone u.log.zone
    >> step (λ t. record t { log = next_log u }))
    (Has u n) (Rolled u n (0 + k + j))
steps_lead u n k j away less first =
    let old : ℕ = u.log.zone in
    let m1 : FsAction NoValue = each reset_if_used (other_zones old) in
    let m2 : FsAction NoValue = m1 >> end_log in
    let m3 : FsAction NoValue = m2 >> finish_if_open old in
    let m4 : FsAction NoValue = m3 >> append_blocks n k in
    let m5 : FsAction NoValue = m4 >> append_blocks n j in
    let m6 : FsAction NoValue = m5 >> reset_zone old in
    let l2 : Leads m2 (Has u n) (Holds u n 0) = leads_then (Has u n) (Holds u n 0) (Holds u n 0) m1 end_log first (ended u n 0 away) in
    let l3 : Leads m3 (Has u n) (Holds u n 0) = leads_then (Has u n) (Holds u n 0) (Holds u n 0) m2 (finish_if_open old) l2 (sealed_off u n 0 old away) in
    let l4 : Leads m4 (Has u n) (Holds u n (0 + k)) = leads_then (Has u n) (Holds u n 0) (Holds u n (0 + k)) m3 (append_blocks n k) l3 (appended u n 0 k (omega arith)) in
    let l5 : Leads m5 (Has u n) (Holds u n (0 + k + j)) = leads_then (Has u n) (Holds u n (0 + k)) (Holds u n (0 + k + j)) m4 (append_blocks n j) l4 (appended u n (0 + k) j (omega arith)) in
    let l6 : Leads m6 (Has u n) (Holds u n (0 + k + j)) = leads_then (Has u n) (Holds u n (0 + k + j)) (Holds u n (0 + k + j)) m5 (reset_zone old) l5 (old_emptied u n (0 + k + j) old away) in
    leads_then (Has u n) (Holds u n (0 + k + j)) (Rolled u n (0 + k + j)) m6 (step (λ t. record t { log = next_log u })) l6 (log_taken u n (0 + k + j))

-- a roll leaves the new log's zone with the log's blocks
pub rolled_holds : (u : FsState) → u.log.zone < 3 → 3 ≤ length u.zones → log_blocks u < u.geometry.capacity → Rolled u (next_log u).zone (0 + superblock_blocks u.geometry.block + snapshot_blocks u.geometry.block (recorded u)) (after_roll u)
unfolding roll
rolled_holds u low long less =
    let n : ℕ = (u.log.zone + 1) % 3 in
    let has : Has u n u = record { geometry = refl; log = refl; long = omega arith } in
    let away : n ≢ u.log.zone = λ is. omega (arith, is, low) in
    ((steps_lead u n (superblock_blocks u.geometry.block) (snapshot_blocks u.geometry.block (recorded u)) away less (others_emptied u u.log.zone low)).run u has).1

-- The state that a roll makes: the other metadata zones are empty, and the new log's zone has its blocks.
use Rattle.std.proofs.Common.{◌≡◌, ℕ, zero, suc, ◌+◌, ◌%◌, ◌<◌, ◌≤◌, Bool, true, false, not, ◌&&◌, ◌==◌, List, [], ◌∷◌, length, map, Result, Ok, Err, nat_lt, refl, sym, ◌∙◌, ap, subst, arith, zero-add}
use Rattle.std.proofs.lemmas.Bool.{or_parts, ltb-false, ne_eqb}
use Rattle.zone_image.specs.declared.ZoneInfo.{ZoneInfo}
use Rattle.zone_image.specs.Infos.{no_info}
use Rattle.log_model.specs.Headroom.{superblock_blocks, snapshot_blocks}
use Rattle.fs_model.specs.declared.error.FsError.{FsError}
use Rattle.fs_model.specs.FsState.{FsState, ZoneDescriptor, descriptor_at, descriptor_in, on_descriptor, recorded, room_in}
use Rattle.fs_model.specs.Trace.{continue, ◌>>◌, when, each}
use Rattle.fs_model.specs.LogSteps.{FsAction, NoValue, after_append, append_blocks, finish_zone, reset_zone, is_used, reset_if_used, finish_if_open, next_log, other_zones, end_log, roll}
use Rattle.fs_tables.specs.MountedTables.{AreSound}
use Rattle.fs_tables.specs.Steps.{infos_in, emptied, with_emptied_metadata, rolled_infos}

-- an action ends so, with an Ok
pub record Ends (m : FsAction NoValue) (s t : FsState) : Type 0 where
  pub answer : (m s).answer ≡ Ok tt
  pub last : (m s).last ≡ t

-- what comes after an Ok ends it
goes_on : (passed : List FsState) (last : FsState) (answer : Result NoValue FsError) (n : FsAction NoValue) (t u : FsState) → answer ≡ Ok tt → last ≡ t → Ends n t u
    → ((continue passed last answer (λ _. n)).answer ≡ Ok tt) × ((continue passed last answer (λ _. n)).last ≡ u)
goes_on passed last (Ok x) n t u ok is ends = (ap (λ r. (n r).answer) is ∙ ends.answer, ap (λ r. (n r).last) is ∙ ends.last)
goes_on passed last (Err e) n t u ok is ends = absurd cc

-- one action after another
ends_then : (m n : FsAction NoValue) (s t u : FsState) → Ends m s t → Ends n t u → Ends (m >> n) s u
ends_then m n s t u first second =
    let both = goes_on (m s).passed (m s).last (m s).answer n t u first.answer first.last second in
    record { answer = both.0; last = both.1 }

-- ---- the zones that are emptied

-- a zone that isn't used is empty
unused_is_empty : (z : ZoneDescriptor) → is_used z ≡ false → emptied z ≡ z
unused_is_empty z unused =
    let parts = or_parts (nat_lt 0 z.info.written) z.info.sealed unused in
    let none : z.info.written ≤ 0 = ltb-false _ _ parts.0 in
    let no_blocks : 0 ≡ z.info.written = omega arith in
    let of : ℕ → Bool → ZoneDescriptor = λ n b. record z { info = record { written = n; sealed = b } } in
    ap (λ n. of n false) no_blocks ∙ ap (of z.info.written) (sym parts.1)

unused_stays : (n : ℕ) (zs : List ZoneDescriptor) → is_used (descriptor_in zs n) ≡ false → on_descriptor n emptied zs ≡ zs
unused_stays n [] unused = refl
unused_stays zero (z ∷ zs) unused = ap (λ y. y ∷ zs) (unused_is_empty z unused)
unused_stays (suc n) (z ∷ zs) unused = ap (λ l. z ∷ l) (unused_stays n zs unused)

-- a zone is reset where it is used
resets_used : (n : ℕ) (s : FsState) → Ends (reset_if_used n) s (record s { zones = on_descriptor n emptied s.zones })
resets_used n s = go (is_used (descriptor_at s n)) refl
  where
    after : FsState
    after = record s { zones = on_descriptor n emptied s.zones }

    Done : Bool → Type 0
    Done b = ((when b (reset_zone n) s).answer ≡ Ok tt) × ((when b (reset_zone n) s).last ≡ after)

    ends : Done (is_used (descriptor_at s n)) → Ends (reset_if_used n) s after
    ends done = record { answer = done.0; last = done.1 }

    go : (b : Bool) → is_used (descriptor_at s n) ≡ b → Ends (reset_if_used n) s after
    go true used = ends (subst Done (sym used) (refl, refl))
    go false unused = ends (subst Done (sym unused) (refl, ap (λ zs. record s { zones = zs }) (sym (unused_stays n s.zones unused))))

-- some zones are emptied
abbrev all_emptied : List ℕ → List ZoneDescriptor → List ZoneDescriptor
all_emptied [] zs = zs
all_emptied (n ∷ ns) zs = all_emptied ns (on_descriptor n emptied zs)

resets_all_used : (ns : List ℕ) (s : FsState) → Ends (each reset_if_used ns) s (record s { zones = all_emptied ns s.zones })
resets_all_used [] s = record { answer = refl; last = refl }
resets_all_used (n ∷ ns) s =
    ends_then (reset_if_used n) (each reset_if_used ns) s (record s { zones = on_descriptor n emptied s.zones }) (record s { zones = all_emptied ns (on_descriptor n emptied s.zones) })
    (resets_used n s) (resets_all_used ns (record s { zones = on_descriptor n emptied s.zones }))

-- ---- the old log's zone, of which only the number and the seal change

abbrev with_info : ZoneInfo → ZoneDescriptor → ZoneDescriptor
with_info info z = record z { info = info }

-- an action changes the number and the seal of a zone
record ChangesInfo (m : FsAction NoValue) (n : ℕ) (s : FsState) : Type 0 where
  info : ZoneInfo
  ends : Ends m s (record s { zones = on_descriptor n (with_info info) s.zones })

same_info : (n : ℕ) (zs : List ZoneDescriptor) → on_descriptor n (with_info (descriptor_in zs n).info) zs ≡ zs
same_info n [] = refl
same_info zero (z ∷ zs) = refl
same_info (suc n) (z ∷ zs) = ap (λ l. z ∷ l) (same_info n zs)

other_info : (h : ZoneDescriptor → ZoneDescriptor) → ((z : ZoneDescriptor) → h z ≡ with_info (h z).info z) → (n : ℕ) (zs : List ZoneDescriptor)
    → on_descriptor n h zs ≡ on_descriptor n (with_info (h (descriptor_in zs n)).info) zs
other_info h only n [] = refl
other_info h only zero (z ∷ zs) = ap (λ y. y ∷ zs) (only z)
other_info h only (suc n) (z ∷ zs) = ap (λ l. z ∷ l) (other_info h only n zs)

-- a change that is made where a test says so
changes_when : (b : Bool) (n : ℕ) (h : ZoneDescriptor → ZoneDescriptor) → ((z : ZoneDescriptor) → h z ≡ with_info (h z).info z) → (m : FsAction NoValue) (s : FsState)
    → Ends m s (record s { zones = on_descriptor n h s.zones }) → ChangesInfo (when b m) n s
changes_when true n h only m s ends = record {
  info = (h (descriptor_at s n)).info;
  ends = record { answer = ends.answer; last = ends.last ∙ ap (λ zs. record s { zones = zs }) (other_info h only n s.zones) };
}
changes_when false n h only m s ends = record {
  info = (descriptor_at s n).info;
  ends = record { answer = refl; last = ap (λ zs. record s { zones = zs }) (sym (same_info n s.zones)) };
}

-- the end record
ends_log : (s : FsState) → ChangesInfo end_log s.log.zone s
ends_log s =
    let change = changes_when (s.log.can_end && nat_lt 0 (room_in s s.log.zone)) s.log.zone (after_append s.geometry.capacity 1) (λ z. refl) (append_blocks s.log.zone 1) s (record { answer = refl; last = refl }) in
    record { info = change.info; ends = record { answer = change.ends.answer; last = change.ends.last } }

-- the seal
seals_log : (n : ℕ) (s : FsState) → ChangesInfo (finish_if_open n) n s
seals_log n s =
    let change = changes_when (not (descriptor_at s n).info.sealed) n (λ z. record z { info = record { written = z.info.written; sealed = true } }) (λ z. refl) (finish_zone n) s (record { answer = refl; last = refl }) in
    record { info = change.info; ends = record { answer = change.ends.answer; last = change.ends.last } }

-- ---- the zones in the end

-- an empty zone with so many blocks, which are fewer than its capacity
fresh : (capacity k n : ℕ) → n ≡ k → k < capacity → (z : ZoneDescriptor) → record z { info = record { written = n; sealed = n == capacity } } ≡ with_info (record { written = k; sealed = false }) z
fresh capacity k n same less z =
    let of : ℕ → Bool → ZoneDescriptor = λ m b. record z { info = record { written = m; sealed = b } } in
    let open_yet : (n == capacity) ≡ false = ne_eqb n capacity (λ full. omega arith) in
    ap (of n) open_yet ∙ ap (λ m. of m false) same

pub filled : (capacity k : ℕ) → k < capacity → (z : ZoneDescriptor) → after_append capacity k (emptied z) ≡ with_info (record { written = k; sealed = false }) z
filled capacity k less z = fresh capacity k (0 + k) (zero-add k) less z

-- two appends to it make one
filled_twice : (capacity k j : ℕ) → k + j < capacity → (z : ZoneDescriptor)
    → after_append capacity j (after_append capacity k (emptied z)) ≡ after_append capacity (k + j) (emptied z)
filled_twice capacity k j less z =
    let short : k < capacity = omega arith in
    let sum : k + j ≡ k + j = refl in
    ap (after_append capacity j) (filled capacity k short z) ∙ fresh capacity (k + j) (k + j) sum less z ∙ sym (filled capacity (k + j) less z)

-- the zones that a roll passes through, from those before
abbrev rolled_through : ℕ → ℕ → ℕ → ℕ → ZoneInfo → ZoneInfo → List ZoneDescriptor → List ZoneDescriptor
rolled_through old capacity k j ended sealed zs =
    on_descriptor old emptied
    (on_descriptor ((old + 1) % 3) (after_append capacity j)
    (on_descriptor ((old + 1) % 3) (after_append capacity k)
    (on_descriptor old (with_info sealed)
    (on_descriptor old (with_info ended)
    (all_emptied (other_zones old) zs)))))

rolled_zones : (old capacity k j : ℕ) (ended sealed : ZoneInfo) (zs : List ZoneDescriptor) → old < 3 → 3 ≤ length zs → k + j < capacity
    → rolled_through old capacity k j ended sealed zs ≡ on_descriptor ((old + 1) % 3) (after_append capacity (k + j)) (with_emptied_metadata zs)
rolled_zones old capacity k j ended sealed [] low long less = absurd (omega arith)
rolled_zones old capacity k j ended sealed (a ∷ []) low long less = absurd (omega arith)
rolled_zones old capacity k j ended sealed (a ∷ b ∷ []) low long less = absurd (omega arith)
rolled_zones zero capacity k j ended sealed (a ∷ b ∷ c ∷ rest) low long less = ap (λ y. emptied a ∷ y ∷ emptied c ∷ rest) (filled_twice capacity k j less b)
rolled_zones (suc zero) capacity k j ended sealed (a ∷ b ∷ c ∷ rest) low long less = ap (λ y. emptied a ∷ emptied b ∷ y ∷ rest) (filled_twice capacity k j less c)
rolled_zones (suc (suc zero)) capacity k j ended sealed (a ∷ b ∷ c ∷ rest) low long less = ap (λ y. y ∷ emptied b ∷ emptied c ∷ rest) (filled_twice capacity k j less a)
rolled_zones (suc (suc (suc n))) capacity k j ended sealed (a ∷ b ∷ c ∷ rest) low long less = absurd (omega arith)

-- the state that a roll makes, where the new log has so many blocks
abbrev pub rolled : FsState → ℕ → FsState
rolled s blocks = record s {
  zones = on_descriptor (next_log s).zone (after_append s.geometry.capacity blocks) (with_emptied_metadata s.zones);
  log = next_log s;
}

-- a roll makes it, and answers Ok
pub roll_ends : (s : FsState) → s.log.zone < 3 → 3 ≤ length s.zones → superblock_blocks s.geometry.block + snapshot_blocks s.geometry.block (recorded s) < s.geometry.capacity
    → Ends roll s (rolled s (superblock_blocks s.geometry.block + snapshot_blocks s.geometry.block (recorded s)))
unfolding roll
roll_ends s low long less =
    let old = s.log.zone in
    let next = (next_log s).zone in
    let k = superblock_blocks s.geometry.block in
    let j = snapshot_blocks s.geometry.block (recorded s) in
    let s1 : FsState = record s { zones = all_emptied (other_zones old) s.zones } in
    let end = ends_log s1 in
    let s2 : FsState = record s { zones = on_descriptor old (with_info end.info) s1.zones } in
    let seal = seals_log old s2 in
    let s3 : FsState = record s { zones = on_descriptor old (with_info seal.info) s2.zones } in
    let s4 : FsState = record s { zones = on_descriptor next (after_append s.geometry.capacity k) s3.zones } in
    let s5 : FsState = record s { zones = on_descriptor next (after_append s.geometry.capacity j) s4.zones } in
    let s6 : FsState = record s { zones = on_descriptor old emptied s5.zones } in
    let s7 : FsState = record s6 { log = next_log s } in
    let m1 = each reset_if_used (other_zones old) in
    let m2 = m1 >> end_log in
    let m3 = m2 >> finish_if_open old in
    let m4 = m3 >> append_blocks next k in
    let m5 = m4 >> append_blocks next j in
    let m6 = m5 >> reset_zone old in
    let all =
    ends_then m6 _ s s6 s7
    (ends_then m5 (reset_zone old) s s5 s6
    (ends_then m4 (append_blocks next j) s s4 s5
    (ends_then m3 (append_blocks next k) s s3 s4
    (ends_then m2 (finish_if_open old) s s2 s3
    (ends_then m1 end_log s s1 s2 (resets_all_used (other_zones old) s) end.ends)
    seal.ends)
    (record { answer = refl; last = refl }))
    (record { answer = refl; last = refl }))
    (record { answer = refl; last = refl }))
    (record { answer = refl; last = refl }) in
    let zones = rolled_zones old s.geometry.capacity k j end.info seal.info s.zones low long less in
    record { answer = all.answer; last = all.last ∙ ap (λ zs. record s { zones = zs; log = next_log s }) zones }

-- ---- the numbers and seals after a roll

rolled_infos_of : (next capacity blocks : ℕ) (zs : List ZoneDescriptor) → next < 3 → 3 ≤ length zs → blocks < capacity
    → map (λ z. z.info) (on_descriptor next (after_append capacity blocks) (with_emptied_metadata zs)) ≡ rolled_infos (map (λ z. z.info) zs) next blocks
rolled_infos_of next capacity blocks [] low long less = absurd (omega arith)
rolled_infos_of next capacity blocks (a ∷ []) low long less = absurd (omega arith)
rolled_infos_of next capacity blocks (a ∷ b ∷ []) low long less = absurd (omega arith)
rolled_infos_of zero capacity blocks (a ∷ b ∷ c ∷ rest) low long less = ap (λ (y : ZoneDescriptor). y.info ∷ no_info ∷ no_info ∷ map (λ z. z.info) rest) (filled capacity blocks less a)
rolled_infos_of (suc zero) capacity blocks (a ∷ b ∷ c ∷ rest) low long less = ap (λ (y : ZoneDescriptor). no_info ∷ y.info ∷ no_info ∷ map (λ z. z.info) rest) (filled capacity blocks less b)
rolled_infos_of (suc (suc zero)) capacity blocks (a ∷ b ∷ c ∷ rest) low long less = ap (λ (y : ZoneDescriptor). no_info ∷ no_info ∷ y.info ∷ map (λ z. z.info) rest) (filled capacity blocks less c)
rolled_infos_of (suc (suc (suc n))) capacity blocks (a ∷ b ∷ c ∷ rest) low long less = absurd (omega arith)

-- of the metadata zones the new log's alone has blocks, and the data zones are as they were
pub infos_rolled : (s : FsState) (blocks : ℕ) → 3 ≤ length s.zones → blocks < s.geometry.capacity → infos_in (rolled s blocks) ≡ rolled_infos (infos_in s) (next_log s).zone blocks
infos_rolled s blocks long less = rolled_infos_of (next_log s).zone s.geometry.capacity blocks s.zones (omega arith) long less

-- an emptied metadata zone has no block and no seal
pub emptied_here : (zs : List ZoneDescriptor) (n : ℕ) → 3 ≤ length zs → n < 3 → (descriptor_in (with_emptied_metadata zs) n).info ≡ no_info
emptied_here [] n long low = absurd (omega arith)
emptied_here (a ∷ []) n long low = absurd (omega arith)
emptied_here (a ∷ b ∷ []) n long low = absurd (omega arith)
emptied_here (a ∷ b ∷ c ∷ rest) zero long low = refl
emptied_here (a ∷ b ∷ c ∷ rest) (suc zero) long low = refl
emptied_here (a ∷ b ∷ c ∷ rest) (suc (suc zero)) long low = refl
emptied_here (a ∷ b ∷ c ∷ rest) (suc (suc (suc n))) long low = absurd (omega arith)

-- the zones of a sound state are more than three
pub some_zones : (s : FsState) → AreSound s → 3 ≤ length s.zones
some_zones s sound = grind (arith, sound.count, sound.valid)

-- the numbers and seals of the state after a roll
pub infos_after_roll : (s : FsState) → AreSound s → superblock_blocks s.geometry.block + snapshot_blocks s.geometry.block (recorded s) < s.geometry.capacity
    → infos_in (roll s).last ≡ rolled_infos (infos_in s) (next_log s).zone (superblock_blocks s.geometry.block + snapshot_blocks s.geometry.block (recorded s))
infos_after_roll s sound less =
    ap infos_in (roll_ends s sound.log_zone (some_zones s sound) less).last
    ∙ infos_rolled s (superblock_blocks s.geometry.block + snapshot_blocks s.geometry.block (recorded s)) (some_zones s sound) less

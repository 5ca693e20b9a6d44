-- What extents, entered one after another, make of a zone.
use Rattle.std.proofs.Common.{◌≡◌, ℕ, ◌+◌, ◌^◌, ◌<◌, ◌≤◌, Bool, true, false, cond, ◌&&◌, List, [], ◌∷◌, ◌++◌, map, nat_lt, sum_by, refl, sym, ◌∙◌, ap, arith, add-zero, append-nil}
use Rattle.std.specs.Prelude.{◌==◌}
use Rattle.std.specs.List.{flat_map, enumerate_from}
use Rattle.std.proofs.lemmas.Bool.{ltb-true, ltb-false}
use Rattle.std.proofs.lemmas.List.Elements.{filter-append}
use Rattle.std.proofs.lemmas.List.Sums.{sum_by-cons, sum_by-append}
use Rattle.zone_image.specs.declared.Geometry.{Geometry}
use Rattle.zone_image.specs.Image.{Image, Zone, zone_of}
use Rattle.zone_image.specs.Infos.{info_of, infos_of}
use Rattle.record_model.specs.declared.types.Extent.{Extent}
use Rattle.record_model.specs.declared.types.FileEntry.{FileEntry}
use Rattle.log_model.specs.declared.selection.Chosen.{Chosen}
use Rattle.log_model.specs.FileTable.{Table, size_of}
use Rattle.log_model.specs.Mounted.{all_extents}
use Rattle.fs_model.specs.declared.zones.ZoneState.{ZoneState}
use Rattle.fs_model.specs.FsState.{touched, lowest_start, hint_from, working_of, state_of, state_with, zone_states, mounted_descriptor, mounted_row}
use Rattle.mount_replay.specs.Filling.{extents_within, filled_zone, filled_zones, ZoneMark, marked, marked_all, marked_files}

-- a zone with these in place of its own
abbrev mark_with : ZoneMark → ℕ → ℕ → ℕ → ℕ → ZoneMark
mark_with m start hint live bytes = record { start = start; state = record (m.state) { hint = hint; live = live; live_bytes = bytes } }

same_marks : (m : ZoneMark) (s t h k l n b c : ℕ) → s ≡ t → h ≡ k → l ≡ n → b ≡ c → mark_with m s h l b ≡ mark_with m t k n c
same_marks m s t h k l n b c starts hints lives bytes =
    ap (λ (x : ℕ). mark_with m x h l b) starts ∙ ap (λ (x : ℕ). mark_with m t x l b) hints ∙ ap (λ (x : ℕ). mark_with m t k x b) lives ∙ ap (λ (x : ℕ). mark_with m t k n x) bytes

-- what a test says of two numbers
abbrev Says : Bool → ℕ → ℕ → Type 0
Says true m n = m < n
Says false m n = n ≤ m

said : (c : Bool) (m n : ℕ) → nat_lt m n ≡ c → Says c m n
said true m n h = ltb-true m n h
said false m n h = ltb-false m n h

-- of three starts the lowest, whichever are compared first
lower_first : (p q r s : Bool) (x m l h k : ℕ) → Says p x m → Says q x l → Says r l (cond p x m) → Says s (cond q x l) m
    → (cond r l (cond p x m) ≡ cond s (cond q x l) m) × (cond r h (cond p h k) ≡ cond s h k)
lower_first true true true true x m l h k a b c d = (omega arith, refl)
lower_first true true true false x m l h k a b c d = absurd (omega arith)
lower_first true true false true x m l h k a b c d = (refl, refl)
lower_first true true false false x m l h k a b c d = absurd (omega arith)
lower_first true false true true x m l h k a b c d = (refl, refl)
lower_first true false true false x m l h k a b c d = absurd (omega arith)
lower_first true false false true x m l h k a b c d = (omega arith, refl)
lower_first true false false false x m l h k a b c d = absurd (omega arith)
lower_first false true true true x m l h k a b c d = absurd (omega arith)
lower_first false true true false x m l h k a b c d = absurd (omega arith)
lower_first false true false true x m l h k a b c d = absurd (omega arith)
lower_first false true false false x m l h k a b c d = (refl, refl)
lower_first false false true true x m l h k a b c d = (refl, refl)
lower_first false false true false x m l h k a b c d = absurd (omega arith)
lower_first false false false true x m l h k a b c d = absurd (omega arith)
lower_first false false false false x m l h k a b c d = (refl, refl)

-- all extents of a file at once
pub all_marked : (g : Geometry) (n hint : ℕ) (xs : List Extent) (m : ZoneMark) → m.start ≤ 2 ^ 64
    → marked_all g n hint xs m
    ≡ mark_with m (cond (nat_lt (lowest_start g n xs) m.start) (lowest_start g n xs) m.start) (cond (nat_lt (lowest_start g n xs) m.start) hint m.state.hint)
    (m.state.live + sum_by (touched g.block) (extents_within g n xs)) (m.state.live_bytes + size_of (extents_within g n xs))
all_marked g n hint [] m low = go (nat_lt (2 ^ 64) m.start) (said (nat_lt (2 ^ 64) m.start) (2 ^ 64) m.start refl)
  where
    go : (c : Bool) → Says c (2 ^ 64) m.start → m ≡ mark_with m (cond c (2 ^ 64) m.start) (cond c hint m.state.hint) (m.state.live + 0) (m.state.live_bytes + 0)
    go true above = absurd (omega arith)
    go false above =
        same_marks m m.start m.start m.state.hint m.state.hint m.state.live (m.state.live + 0) m.state.live_bytes (m.state.live_bytes + 0) refl refl (sym (add-zero m.state.live)) (sym (add-zero m.state.live_bytes))
all_marked g n hint (x ∷ xs) m low =
    all_marked g n hint xs (marked g n hint x m) (below (zone_of g x.start == n) (nat_lt x.start m.start) (said (nat_lt x.start m.start) x.start m.start refl))
    ∙ go (zone_of g x.start == n)
  where
    t : Extent → ℕ
    t = touched g.block

    fs : List Extent
    fs = extents_within g n xs

    l : ℕ
    l = lowest_start g n xs

    here : Bool → ZoneMark
    here a = cond a (mark_with m (cond (nat_lt x.start m.start) x.start m.start) (cond (nat_lt x.start m.start) hint m.state.hint) (m.state.live + t x) (m.state.live_bytes + x.len)) m

    below : (a p : Bool) → Says p x.start m.start
        → (cond a (mark_with m (cond p x.start m.start) (cond p hint m.state.hint) (m.state.live + t x) (m.state.live_bytes + x.len)) m).start ≤ 2 ^ 64
    below true true less = omega arith
    below true false less = low
    below false p less = low

    lowest : Bool → ℕ
    lowest a = cond (a && nat_lt x.start l) x.start l

    go : (a : Bool) → mark_with (here a) (cond (nat_lt l (here a).start) l (here a).start) (cond (nat_lt l (here a).start) hint (here a).state.hint)
        ((here a).state.live + sum_by t fs) ((here a).state.live_bytes + size_of fs)
        ≡ mark_with m (cond (nat_lt (lowest a) m.start) (lowest a) m.start) (cond (nat_lt (lowest a) m.start) hint m.state.hint)
        (m.state.live + sum_by t (cond a (x ∷ fs) fs)) (m.state.live_bytes + size_of (cond a (x ∷ fs) fs))
    go false = refl
    go true =
        let p = nat_lt x.start m.start in
        let q = nat_lt x.start l in
        let both = lower_first p q (nat_lt l (cond p x.start m.start)) (nat_lt (cond q x.start l) m.start) x.start m.start l hint m.state.hint
        (said p x.start m.start refl) (said q x.start l refl) (said (nat_lt l (cond p x.start m.start)) l (cond p x.start m.start) refl) (said (nat_lt (cond q x.start l) m.start) (cond q x.start l) m.start refl) in
        same_marks m (cond (nat_lt l (cond p x.start m.start)) l (cond p x.start m.start)) (cond (nat_lt (cond q x.start l) m.start) (cond q x.start l) m.start)
        (cond (nat_lt l (cond p x.start m.start)) hint (cond p hint m.state.hint)) (cond (nat_lt (cond q x.start l) m.start) hint m.state.hint)
        ((m.state.live + t x) + sum_by t fs) (m.state.live + sum_by t (x ∷ fs)) ((m.state.live_bytes + x.len) + size_of fs) (m.state.live_bytes + size_of (x ∷ fs))
        both.0 both.1 (omega (arith, sum_by-cons t x fs)) (omega (arith, sum_by-cons (λ (y : Extent). y.len) x fs))

-- all files at once
pub files_marked : (g : Geometry) (n : ℕ) (es : Table) (m : ZoneMark) → m.start ≤ 2 ^ 64
    → (marked_files g n es m).state
    ≡ record (m.state) { hint = hint_from g n m.start m.state.hint es; live = m.state.live + sum_by (touched g.block) (extents_within g n (all_extents es)); live_bytes = m.state.live_bytes + size_of (extents_within g n (all_extents es)) }
files_marked g n [] m low =
    ap (λ (k : ZoneMark). k.state)
    (same_marks m m.start m.start m.state.hint m.state.hint m.state.live (m.state.live + 0) m.state.live_bytes (m.state.live_bytes + 0) refl refl (sym (add-zero m.state.live)) (sym (add-zero m.state.live_bytes)))
files_marked g n (e ∷ es) m low =
    ap (λ (k : ZoneMark). (marked_files g n es k).state) (all_marked g n e.hint e.extents m low)
    ∙ files_marked g n es (next (nat_lt l m.start)) (below (nat_lt l m.start) (said (nat_lt l m.start) l m.start refl))
    ∙ go (nat_lt l m.start)
  where
    t : Extent → ℕ
    t = touched g.block

    within : List Extent → List Extent
    within xs = extents_within g n xs

    l : ℕ
    l = lowest_start g n e.extents

    next : Bool → ZoneMark
    next c = mark_with m (cond c l m.start) (cond c e.hint m.state.hint) (m.state.live + sum_by t (within e.extents)) (m.state.live_bytes + size_of (within e.extents))

    below : (c : Bool) → Says c l m.start → (next c).start ≤ 2 ^ 64
    below true less = omega arith
    below false less = low

    split : (f : Extent → ℕ) (before : ℕ) → (before + sum_by f (within e.extents)) + sum_by f (within (all_extents es)) ≡ before + sum_by f (within (e.extents ++ all_extents es))
    split f before =
        let joined : sum_by f (within (e.extents ++ all_extents es)) ≡ sum_by f (within e.extents) + sum_by f (within (all_extents es)) =
        ap (sum_by f) (filter-append (λ (x : Extent). zone_of g x.start == n) e.extents (all_extents es)) ∙ sum_by-append f (within e.extents) (within (all_extents es)) in
        omega (arith, joined)

    state_with_these : ℕ → ℕ → ℕ → ZoneState
    state_with_these hint live bytes = record (m.state) { hint = hint; live = live; live_bytes = bytes }

    sums : (hint : ℕ) → state_with_these hint ((m.state.live + sum_by t (within e.extents)) + sum_by t (within (all_extents es))) ((m.state.live_bytes + size_of (within e.extents)) + size_of (within (all_extents es)))
        ≡ state_with_these hint (m.state.live + sum_by t (within (e.extents ++ all_extents es))) (m.state.live_bytes + size_of (within (e.extents ++ all_extents es)))
    sums hint =
        ap (λ (k : ℕ). state_with_these hint k ((m.state.live_bytes + size_of (within e.extents)) + size_of (within (all_extents es)))) (split t m.state.live)
        ∙ ap (λ (k : ℕ). state_with_these hint (m.state.live + sum_by t (within (e.extents ++ all_extents es))) k) (split (λ (y : Extent). y.len) m.state.live_bytes)

    go : (c : Bool) → state_with_these (hint_from g n (cond c l m.start) (cond c e.hint m.state.hint) es) ((m.state.live + sum_by t (within e.extents)) + sum_by t (within (all_extents es))) ((m.state.live_bytes + size_of (within e.extents)) + size_of (within (all_extents es)))
        ≡ state_with_these (cond c (hint_from g n l e.hint es) (hint_from g n m.start m.state.hint es)) (m.state.live + sum_by t (within (e.extents ++ all_extents es))) (m.state.live_bytes + size_of (within (e.extents ++ all_extents es)))
    go true = sums (hint_from g n l e.hint es)
    go false = sums (hint_from g n m.start m.state.hint es)

-- ---- the zones of a state that was mounted

-- everything is recorded in a table that was mounted
pub working_extents : (es : Table) → flat_map (λ e. e.extents) (working_of (map mounted_row es)) ≡ all_extents es
working_extents [] = refl
working_extents (e ∷ es) =
    ap (λ (xs : List Extent). xs ++ flat_map (λ (f : FileEntry). f.extents) (working_of (map mounted_row es))) (append-nil e.extents)
    ∙ ap (λ (xs : List Extent). e.extents ++ xs) (working_extents es)

-- a zone of that state
filled_state : (i : Image) (es : Table) (log : Chosen) (a : ℕ) (z : Zone) → state_of (state_with i es log) (a, mounted_descriptor i.geometry es (a, z)) ≡ filled_zone i.geometry es (a, info_of z)
filled_state i es log a z =
    ap (λ (xs : List Extent). record { info = info_of z; owner = (mounted_descriptor i.geometry es (a, z)).owner; hint = hint_from i.geometry a (2 ^ 64) 0 es; live = sum_by (touched i.geometry.block) (extents_within i.geometry a xs); live_bytes = size_of (extents_within i.geometry a xs) })
    (working_extents es)

filled_states : (i : Image) (es : Table) (log : Chosen) (a : ℕ) (zs : List Zone)
    → map (state_of (state_with i es log)) (enumerate_from a (map (mounted_descriptor i.geometry es) (enumerate_from a zs))) ≡ map (filled_zone i.geometry es) (enumerate_from a (map info_of zs))
filled_states i es log a [] = refl
filled_states i es log a (z ∷ zs) =
    ap (λ (s : ZoneState). s ∷ map (state_of (state_with i es log)) (enumerate_from (a + 1) (map (mounted_descriptor i.geometry es) (enumerate_from (a + 1) zs)))) (filled_state i es log a z)
    ∙ ap (λ (ss : List ZoneState). filled_zone i.geometry es (a, info_of z) ∷ ss) (filled_states i es log (a + 1) zs)

pub states_are_filled : (i : Image) (es : Table) (log : Chosen) → zone_states (state_with i es log) ≡ filled_zones i.geometry es (infos_of i)
states_are_filled i es log = filled_states i es log 0 i.zones

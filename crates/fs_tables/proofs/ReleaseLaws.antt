-- Extents that are taken out of the live counts of zones.
use Rattle.std.specs.Prelude.{◌≡◌, ◌≢◌, ℕ, zero, suc, ◌+◌, ◌-◌, ◌<◌, ◌≤◌, Bool, true, false, cond, List, [], ◌∷◌, ◌++◌, length, map, filter, sum_by, ◌==◌, refl}
use Rattle.std.specs.List.{All, enumerate_from}
use Rattle.std.proofs.Common.{get_or, ap, sym, subst, ◌∙◌, arith}
use Rattle.std.proofs.lemmas.Bool.{eq-eqb, ne_eqb}
use Rattle.std.proofs.lemmas.List.Sums.{sum_by-cons}
use Rattle.std.proofs.lemmas.List.Elements.{All-head, All-tail}
use Rattle.zone_image.specs.declared.Geometry.{Geometry}
use Rattle.zone_image.specs.Changes.{change_at}
use Rattle.zone_image.specs.Image.{zone_of}
use Rattle.record_model.specs.declared.types.Extent.{Extent}
use Rattle.log_model.specs.FileTable.{size_of}
use Rattle.fs_model.specs.declared.zones.ZoneState.{ZoneState}
use Rattle.fs_model.specs.FsState.{ZoneDescriptor, touched}
use Rattle.zone_alloc.specs.Descriptors.{descriptor_of}
use Rattle.zone_alloc.specs.ZoneTableState.{ZoneTableState, IsInDataZone, live_removed, no_state, state_at}
use Rattle.fs_tables.specs.Released.{AreLive, IsLive, released, released_one}
use Rattle.fs_tables.proofs.FileChanges.{state_with, states_with}

-- ---- one extent in a list

-- an extent that doesn't pass
passed_by : (p : Extent → Bool) (pre rest : List Extent) (x : Extent) → p x ≡ false → filter p (pre ++ x ∷ rest) ≡ filter p (pre ++ rest)
passed_by p [] rest x no_pass = ap (λ b. cond b (x ∷ filter p rest) (filter p rest)) no_pass
passed_by p (y ∷ ys) rest x no_pass = ap (λ (l : List Extent). cond (p y) (y ∷ l) l) (passed_by p ys rest x no_pass)

-- the sum with an extent that passes
sum_with : (m : Extent → ℕ) (p : Extent → Bool) (pre rest : List Extent) (x : Extent) → p x ≡ true → sum_by m (filter p (pre ++ x ∷ rest)) ≡ m x + sum_by m (filter p (pre ++ rest))
sum_with m p [] rest x pass = ap (λ b. sum_by m (cond b (x ∷ filter p rest) (filter p rest))) pass ∙ sum_by-cons m x (filter p rest)
sum_with m p (y ∷ ys) rest x pass = choice (p y) (sum_with m p ys rest x pass)
  where
    choice : (b : Bool) → sum_by m (filter p (ys ++ x ∷ rest)) ≡ m x + sum_by m (filter p (ys ++ rest))
        → sum_by m (cond b (y ∷ filter p (ys ++ x ∷ rest)) (filter p (ys ++ x ∷ rest))) ≡ m x + sum_by m (cond b (y ∷ filter p (ys ++ rest)) (filter p (ys ++ rest)))
    choice true h = omega (arith, h, sum_by-cons m y (filter p (ys ++ x ∷ rest)), sum_by-cons m y (filter p (ys ++ rest)))
    choice false h = h

-- ---- zones without it

-- a zone in which it isn't
other_state : (g : Geometry) (n : ℕ) (z : ZoneDescriptor) (pre rest : List Extent) (x : Extent) → zone_of g x.start ≢ n → state_with g (pre ++ x ∷ rest) (n, z) ≡ state_with g (pre ++ rest) (n, z)
other_state g n z pre rest x other =
    ap (λ (xs : List Extent). record { info = z.info; owner = z.owner; hint = z.hint; live = sum_by (touched g.block) xs; live_bytes = size_of xs })
    (passed_by (λ y. zone_of g y.start == n) pre rest x (ne_eqb (zone_of g x.start) n other))

-- the zone in which it is
own_state : (g : Geometry) (n : ℕ) (z : ZoneDescriptor) (pre rest : List Extent) (x : Extent) → zone_of g x.start ≡ n
    → live_removed g.block x (state_with g (pre ++ x ∷ rest) (n, z)) ≡ state_with g (pre ++ rest) (n, z)
own_state g n z pre rest x own =
    let p : Extent → Bool = λ y. zone_of g y.start == n in
    let pass : p x ≡ true = eq-eqb (zone_of g x.start) n own in
    let blocks : sum_by (touched g.block) (filter p (pre ++ x ∷ rest)) - touched g.block x ≡ sum_by (touched g.block) (filter p (pre ++ rest)) = omega (arith, sum_with (touched g.block) p pre rest x pass) in
    let bytes : sum_by (λ y. y.len) (filter p (pre ++ x ∷ rest)) - x.len ≡ sum_by (λ y. y.len) (filter p (pre ++ rest)) = omega (arith, sum_with (λ (y : Extent). y.len) p pre rest x pass) in
    ap (λ k. record { info = z.info; owner = z.owner; hint = z.hint; live = k; live_bytes = sum_by (λ (y : Extent). y.len) (filter p (pre ++ x ∷ rest)) - x.len }) blocks
    ∙ ap (λ k. record { info = z.info; owner = z.owner; hint = z.hint; live = sum_by (touched g.block) (filter p (pre ++ rest)); live_bytes = k }) bytes

-- zones behind it
zones_behind : (g : Geometry) (from : ℕ) (zs : List ZoneDescriptor) (pre rest : List Extent) (x : Extent) → zone_of g x.start < from → states_with g from zs (pre ++ x ∷ rest) ≡ states_with g from zs (pre ++ rest)
zones_behind g from [] pre rest x lt = refl
zones_behind g from (z ∷ zs) pre rest x lt =
    ap (λ (q : ZoneState). q ∷ states_with g (from + 1) zs (pre ++ x ∷ rest)) (other_state g from z pre rest x (λ same. omega (arith, same, lt)))
    ∙ ap (λ (qs : List ZoneState). state_with g (pre ++ rest) (from, z) ∷ qs) (zones_behind g (from + 1) zs pre rest x (omega arith))

-- all zones
one_released : (g : Geometry) (from n : ℕ) (zs : List ZoneDescriptor) (pre rest : List Extent) (x : Extent) → zone_of g x.start ≡ from + n
    → change_at n (live_removed g.block x) (states_with g from zs (pre ++ x ∷ rest)) ≡ states_with g from zs (pre ++ rest)
one_released g from n [] pre rest x at = refl
one_released g from zero (z ∷ zs) pre rest x at =
    ap (λ (q : ZoneState). q ∷ states_with g (from + 1) zs (pre ++ x ∷ rest)) (own_state g from z pre rest x (omega (arith, at)))
    ∙ ap (λ (qs : List ZoneState). state_with g (pre ++ rest) (from, z) ∷ qs) (zones_behind g (from + 1) zs pre rest x (omega (arith, at)))
one_released g from (suc n) (z ∷ zs) pre rest x at =
    ap (λ (q : ZoneState). q ∷ change_at n (live_removed g.block x) (states_with g (from + 1) zs (pre ++ x ∷ rest))) (other_state g from z pre rest x (λ same. omega (arith, same, at)))
    ∙ ap (λ (qs : List ZoneState). state_with g (pre ++ rest) (from, z) ∷ qs) (one_released g (from + 1) n zs pre rest x (omega (arith, at)))

-- ---- it is live

-- a zone of those
zone_at : (g : Geometry) (from n : ℕ) (zs : List ZoneDescriptor) (xs : List Extent) → n < length zs
    → (z : ZoneDescriptor) × (get_or (states_with g from zs xs) n no_state ≡ state_with g xs (from + n, z))
zone_at g from n [] xs lt = absurd (omega arith)
zone_at g from zero (z ∷ zs) xs lt = let here : from ≡ from + 0 = omega arith in (z, ap (λ i. state_with g xs (i, z)) here)
zone_at g from (suc n) (z ∷ zs) xs lt =
    let next : from + 1 + n ≡ from + suc n = omega arith in
    let found = zone_at g (from + 1) n zs xs (omega arith) in
    (found.0, found.1 ∙ ap (λ i. state_with g xs (i, found.0)) next)

-- the extent is live in its zone
one_live : (zs : List ZoneDescriptor) (pre rest : List Extent) (x : Extent) (t : ZoneTableState) → t.zones ≡ states_with t.geometry 0 zs (pre ++ x ∷ rest) → length zs ≡ t.geometry.zones
    → IsInDataZone t.geometry x → IsLive x t
one_live zs pre rest x t are count within =
    let g : Geometry = t.geometry in
    let n : ℕ = zone_of g x.start in
    let found = zone_at g 0 n zs (pre ++ x ∷ rest) (omega (arith, within.is_zone, count)) in
    let here : 0 + n ≡ n = omega arith in
    let state : state_at t n ≡ state_with g (pre ++ x ∷ rest) (n, found.0) =
    ap (λ (qs : List ZoneState). get_or qs n no_state) are ∙ found.1 ∙ ap (λ i. state_with g (pre ++ x ∷ rest) (i, found.0)) here in
    let p : Extent → Bool = λ y. zone_of g y.start == n in
    let pass : p x ≡ true = eq-eqb n n refl in
    let blocks = ap (λ (q : ZoneState). q.live) state in
    let bytes = ap (λ (q : ZoneState). q.live_bytes) state in
    record {
      within = within;
      blocks = omega (arith, blocks, sum_with (touched g.block) p pre rest x pass);
      bytes = omega (arith, bytes, sum_with (λ (y : Extent). y.len) p pre rest x pass);
    }

-- ---- all of a part of the extents

-- zones from which a part of the extents is taken
pub record AreReleased (zs : List ZoneDescriptor) (pre xs post : List Extent) (t : ZoneTableState) : Type 0 where
  pub live : AreLive xs t
  pub zones : (released xs t).zones ≡ states_with t.geometry 0 zs (pre ++ post)
  pub same_geometry : (released xs t).geometry ≡ t.geometry
  pub same_collect : (released xs t).collect ≡ t.collect

-- they can be taken, and are
pub part_released : (zs : List ZoneDescriptor) (pre xs post : List Extent) (t : ZoneTableState) → t.zones ≡ states_with t.geometry 0 zs (pre ++ (xs ++ post)) → length zs ≡ t.geometry.zones
    → All (IsInDataZone t.geometry) xs → AreReleased zs pre xs post t
part_released zs pre [] post t are count within = record { live = tt; zones = are; same_geometry = refl; same_collect = refl }
part_released zs pre (x ∷ xs) post t are count within =
    let g : Geometry = t.geometry in
    let n : ℕ = zone_of g x.start in
    let here : n ≡ 0 + n = omega arith in
    let next : (released_one x t).zones ≡ states_with g 0 zs (pre ++ (xs ++ post)) =
    ap (change_at n (live_removed g.block x)) are ∙ one_released g 0 n zs pre (xs ++ post) x here in
    let rest : AreReleased zs pre xs post (released_one x t) =
    part_released zs pre xs post (released_one x t) next count (All-tail (IsInDataZone g) x xs within) in
    record {
      live = (one_live zs pre (xs ++ post) x t are count (All-head (IsInDataZone g) x xs within), rest.live);
      zones = rest.zones;
      same_geometry = rest.same_geometry;
      same_collect = rest.same_collect;
    }

-- numbers, seals and owners stay
pub described_released : (xs : List Extent) (t : ZoneTableState) → map descriptor_of (released xs t).zones ≡ map descriptor_of t.zones
described_released [] t = refl
described_released (x ∷ xs) t = described_released xs (released_one x t) ∙ one (zone_of t.geometry x.start) t.zones
  where
    one : (n : ℕ) (zs : List ZoneState) → map descriptor_of (change_at n (live_removed t.geometry.block x) zs) ≡ map descriptor_of zs
    one n [] = refl
    one zero (z ∷ zs) = refl
    one (suc n) (z ∷ zs) = ap (λ (ds : List ZoneDescriptor). descriptor_of z ∷ ds) (one n zs)

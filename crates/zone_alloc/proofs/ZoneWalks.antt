-- Walks over data zones: the next zone, and what a walk has of it.
use Rattle.std.proofs.Common.{◌≡◌, ℕ, ◌+◌, ◌<◌, ◌≤◌, Bool, true, false, cond, List, [], ◌∷◌, length, drop, get_or, filter, count_by, sum_by, ◌∙◌, ap, arith, zero-add}
use Rattle.std.specs.List.{enumerate_from}
use Rattle.std.proofs.lemmas.List.{drop_more, drop_all}
use Rattle.std.proofs.lemmas.List.FromFn.{length-enumerate_from, get_or-enumerate_from}
use Rattle.std.proofs.lemmas.List.Sums.{sum_by-cons}
use Rattle.fs_model.specs.declared.zones.ZoneState.{ZoneState}
use Rattle.fs_model.specs.ZonePolicy.{Numbered}
use Rattle.zone_alloc.specs.ZoneTableState.{no_state}

-- the zones from this number on
abbrev pub zones_from : ℕ → List ZoneState → List Numbered
zones_from i zs = drop i (enumerate_from 0 zs)

-- the zone of this number
abbrev pub zone_here : List ZoneState → ℕ → Numbered
zone_here zs i = (i, get_or zs i no_state)

-- it, and those after it
pub zones_from-step : (zs : List ZoneState) (i : ℕ) → i < length zs → zones_from i zs ≡ zone_here zs i ∷ zones_from (i + 1) zs
zones_from-step zs i in_range =
    let long : i < length (enumerate_from 0 zs) = omega (arith, length-enumerate_from 0 zs) in
    let same : (0 + i, get_or zs i no_state) ≡ zone_here zs i = ap (λ (n : ℕ). (n, get_or zs i no_state)) (zero-add i) in
    drop_more (enumerate_from 0 zs) i (i, no_state) long
    ∙ ap (λ (x : Numbered). x ∷ zones_from (i + 1) zs) (get_or-enumerate_from 0 zs i (i, no_state) in_range ∙ same)

pub zones_from-end : (zs : List ZoneState) (i : ℕ) → length zs ≤ i → zones_from i zs ≡ []
zones_from-end zs i past = drop_all i (enumerate_from 0 zs) (omega (arith, length-enumerate_from 0 zs))

-- a sum takes what the zone adds
pub sum-step : (f : Numbered → ℕ) (zs : List ZoneState) (i : ℕ) → i < length zs → sum_by f (zones_from i zs) ≡ f (zone_here zs i) + sum_by f (zones_from (i + 1) zs)
sum-step f zs i in_range = ap (sum_by f) (zones_from-step zs i in_range) ∙ sum_by-cons f (zone_here zs i) (zones_from (i + 1) zs)

pub sum-end : (f : Numbered → ℕ) (zs : List ZoneState) (i : ℕ) → length zs ≤ i → sum_by f (zones_from i zs) ≡ 0
sum-end f zs i past = ap (sum_by f) (zones_from-end zs i past)

-- a count takes one, where the zone passes
pub count-passes : (p : Numbered → Bool) (zs : List ZoneState) (i : ℕ) → i < length zs → p (zone_here zs i) ≡ true → count_by p (zones_from i zs) ≡ 1 + count_by p (zones_from (i + 1) zs)
count-passes p zs i in_range passes =
    sum-step (λ x. cond (p x) 1 0) zs i in_range ∙ ap (λ b. cond b 1 0 + count_by p (zones_from (i + 1) zs)) passes

pub count-fails : (p : Numbered → Bool) (zs : List ZoneState) (i : ℕ) → i < length zs → p (zone_here zs i) ≡ false → count_by p (zones_from i zs) ≡ count_by p (zones_from (i + 1) zs)
count-fails p zs i in_range fails =
    sum-step (λ x. cond (p x) 1 0) zs i in_range ∙ ap (λ b. cond b 1 0 + count_by p (zones_from (i + 1) zs)) fails ∙ zero-add (count_by p (zones_from (i + 1) zs))

pub count-end : (p : Numbered → Bool) (zs : List ZoneState) (i : ℕ) → length zs ≤ i → count_by p (zones_from i zs) ≡ 0
count-end p zs i past = ap (count_by p) (zones_from-end zs i past)

-- a filter keeps the zone, where it passes
pub filter-passes : (p : Numbered → Bool) (zs : List ZoneState) (i : ℕ) → i < length zs → p (zone_here zs i) ≡ true → filter p (zones_from i zs) ≡ zone_here zs i ∷ filter p (zones_from (i + 1) zs)
filter-passes p zs i in_range passes =
    ap (filter p) (zones_from-step zs i in_range) ∙ ap (λ b. cond b (zone_here zs i ∷ filter p (zones_from (i + 1) zs)) (filter p (zones_from (i + 1) zs))) passes

pub filter-fails : (p : Numbered → Bool) (zs : List ZoneState) (i : ℕ) → i < length zs → p (zone_here zs i) ≡ false → filter p (zones_from i zs) ≡ filter p (zones_from (i + 1) zs)
filter-fails p zs i in_range fails =
    ap (filter p) (zones_from-step zs i in_range) ∙ ap (λ b. cond b (zone_here zs i ∷ filter p (zones_from (i + 1) zs)) (filter p (zones_from (i + 1) zs))) fails

pub filter-end : (p : Numbered → Bool) (zs : List ZoneState) (i : ℕ) → length zs ≤ i → filter p (zones_from i zs) ≡ []
filter-end p zs i past = ap (filter p) (zones_from-end zs i past)

-- Which zones the policy's walks name.
use Rattle.std.proofs.Common.{◌≡◌, ℕ, zero, suc, ◌+◌, ◌-◌, ◌<◌, ◌≤◌, Bool, true, false, ◌&&◌, cond, List, [], ◌∷◌, length, get_or, filter, Option, Some, None, nat_lt, refl, sym, ◌∙◌, ap, subst, arith, zero-add}
use Rattle.std.specs.Prelude.{IfSome, ◌==◌, option_map}
use Rattle.std.specs.List.{All, enumerate_from}
use Rattle.std.proofs.lemmas.List.{length-drop, get_or-drop, get_or_default}
use Rattle.std.proofs.lemmas.List.Elements.{All-head, All-tail, All-filter, filter_passes}
use Rattle.std.proofs.lemmas.List.FromFn.{length-enumerate_from, get_or-enumerate_from}
use Rattle.std.proofs.lemmas.Bool.{and_parts, false≢true}
use Rattle.fs_model.specs.declared.zones.ZoneState.{ZoneState}
use Rattle.fs_model.specs.declared.policy.Choice.{Choice}
use Rattle.fs_model.specs.ZonePolicy.{Numbered, data_zones, first, least, lesser, or_else, is_empty, is_idle_active, zone_difference, room_of, take_zone, fresh_zone, finish_for, choice_among, choice_or, choose_zone, token_is_free, empty_is_allowed}
use Rattle.fs_model.specs.VictimPolicy.{is_resettable, resettable}
use Rattle.zone_alloc.specs.ZoneTableState.{ZoneTableState, no_state}
use Rattle.zone_alloc.specs.NamedZones.{IsNamed, NamesIdleZones, IsLowestResettable}
use Rattle.zone_alloc.proofs.ZoneWalks.{zones_from, zone_here, filter-passes, filter-fails, filter-end}

-- a zone of a walk stands in the list under its number
pub record Stands (zs : List ZoneState) (z : Numbered) : Type 0 where
  pub behind_metadata : 3 ≤ z.0
  pub in_range : z.0 < length zs
  pub same : z.1 ≡ get_or zs z.0 no_state

pub all_stand : (zs : List ZoneState) → All (Stands zs) (data_zones zs)
all_stand zs k d below =
    let short : 3 + k < length zs = omega (arith, length-drop 3 (enumerate_from 0 zs), length-enumerate_from 0 zs, below) in
    let read : get_or (data_zones zs) k d ≡ (3 + k, get_or zs (3 + k) no_state) =
    get_or-drop 3 (enumerate_from 0 zs) k d
    ∙ get_or-enumerate_from 0 zs (3 + k) d short
    ∙ ap (λ (n : ℕ). (n, get_or zs (3 + k) d.1)) (zero-add (3 + k))
    ∙ ap (λ (z : ZoneState). (3 + k, z)) (get_or_default zs (3 + k) d.1 no_state short) in
    subst (Stands zs) (sym read) (record { behind_metadata = omega arith; in_range = short; same = refl })

-- a zone that a walk looks for
abbrev pub IsFound : (Numbered → Bool) → List ZoneState → Numbered → Type 0
IsFound p zs z = Stands zs z × (p z ≡ true)

pub all_found : (p : Numbered → Bool) (zs : List ZoneState) → All (IsFound p zs) (filter p (data_zones zs))
all_found p zs k d below = (All-filter p (Stands zs) (data_zones zs) (all_stand zs) k d below, filter_passes p (data_zones zs) k d below)

-- what holds of all holds of the first
pub first_is : (P : Numbered → Type 0) (xs : List Numbered) → All P xs → IfSome (first xs) P
first_is P [] all = tt
first_is P (x ∷ xs) all = All-head P x xs all

lesser_is : (P : Numbered → Type 0) (key : Numbered → ℕ) (x : Numbered) (o : Option Numbered) → P x → IfSome o P → IfSome (lesser key x o) P
lesser_is P key x None here other = here
lesser_is P key x (Some y) here other = go (nat_lt (key y) (key x))
  where
    go : (b : Bool) → IfSome (cond b (Some y) (Some x)) P
    go true = other
    go false = here

-- and of the least
pub least_is : (P : Numbered → Type 0) (key : Numbered → ℕ) (xs : List Numbered) → All P xs → IfSome (least key xs) P
least_is P key [] all = tt
least_is P key (x ∷ xs) all = lesser_is P key x (least key xs) (All-head P x xs all) (least_is P key xs (All-tail P x xs all))

-- a zone that was found is named
pub named_is : (p q : Numbered → Bool) (t : ZoneTableState) → length t.zones ≡ t.geometry.zones → ((z : Numbered) → p z ≡ true → q z ≡ true) → (z : Numbered) → IsFound p t.zones z → IsNamed q t z.0
named_is p q t count weaker z found = record {
  behind_metadata = found.0.behind_metadata;
  is_zone = omega (arith, found.0.in_range, count);
  passes = subst (λ (s : ZoneState). q (z.0, s) ≡ true) found.0.same (weaker z found.1);
}

-- a choice that names such zones
abbrev pub NamesIfSome : ZoneTableState → Option Choice → Type 0
NamesIfSome t c = IfSome c (NamesIdleZones t)

take_names : (p : Numbered → Bool) (t : ZoneTableState) → length t.zones ≡ t.geometry.zones → ((z : Numbered) → p z ≡ true → is_idle_active z ≡ true)
    → (o : Option Numbered) → IfSome o (IsFound p t.zones) → NamesIfSome t (take_zone o)
take_names p t count weaker None found = tt
take_names p t count weaker (Some z) found = named_is p is_idle_active t count weaker z found

fresh_names : (t : ZoneTableState) → length t.zones ≡ t.geometry.zones → (allowed : Bool) (o : Option Numbered) → IfSome o (IsFound is_empty t.zones) → NamesIfSome t (fresh_zone allowed o)
fresh_names t count allowed None found = tt
fresh_names t count true (Some z) found = named_is is_empty is_empty t count (λ z h. h) z found
fresh_names t count false (Some z) found = tt

finish_names : (t : ZoneTableState) → length t.zones ≡ t.geometry.zones → (allowed : Bool) (old new : Option Numbered) → IfSome old (IsFound is_idle_active t.zones) → IfSome new (IsFound is_empty t.zones)
    → NamesIfSome t (finish_for allowed old new)
finish_names t count allowed None new h k = tt
finish_names t count allowed (Some old) None h k = tt
finish_names t count true (Some old) (Some new) h k = (named_is is_idle_active is_idle_active t count (λ z e. e) old h, named_is is_empty is_empty t count (λ z e. e) new k)
finish_names t count false (Some old) (Some new) h k = tt

or_else_names : (t : ZoneTableState) (a b : Option Choice) → NamesIfSome t a → NamesIfSome t b → NamesIfSome t (or_else a b)
or_else_names t None b h k = k
or_else_names t (Some c) b h k = h

choice_or_names : (t : ZoneTableState) (free : Bool) (c : Option Choice) → NamesIfSome t c → NamesIdleZones t (choice_or free c)
choice_or_names t true None h = tt
choice_or_names t false None h = tt
choice_or_names t free (Some c) h = h

-- the zones that a choice names
pub choice_names : (t : ZoneTableState) (hint : ℕ) → length t.zones ≡ t.geometry.zones → NamesIdleZones t (choose_zone t.geometry t.collect t.zones hint)
unfolding choose_zone
choice_names t hint count =
    let g = t.geometry in
    let zs = data_zones t.zones in
    let key = zone_difference hint in
    let near = λ (z : Numbered). is_idle_active z && nat_lt (zone_difference hint z) 50 in
    let equal = λ (z : Numbered). is_idle_active z && (zone_difference hint z == 50) in
    let free = token_is_free g.active_limit zs in
    let allowed = empty_is_allowed t.collect zs in
    let left = λ (q : Numbered → Bool) (z : Numbered) (h : (is_idle_active z && q z) ≡ true). (and_parts (is_idle_active z) (q z) h).0 in
    let found = λ (p : Numbered → Bool). first_is (IsFound p t.zones) (filter p zs) (all_found p t.zones) in
    let empty : IfSome (first (filter is_empty zs)) (IsFound is_empty t.zones) = found is_empty in
    let by = λ (k : Numbered → ℕ) (p : Numbered → Bool). least_is (IsFound p t.zones) k (filter p zs) (all_found p t.zones) in
    choice_or_names t free (choice_among g.capacity g.active_limit t.collect hint zs)
    (or_else_names t _ _ (take_names near t count (left (λ z. nat_lt (zone_difference hint z) 50)) (least key (filter near zs)) (by key near))
    (or_else_names t _ _ (fresh_names t count (free && allowed) (first (filter is_empty zs)) empty)
    (or_else_names t _ _ (take_names equal t count (left (λ z. zone_difference hint z == 50)) (first (filter equal zs)) (found equal))
    (or_else_names t _ _ (finish_names t count allowed (least (λ z. room_of g.capacity z.1) (filter is_idle_active zs)) (first (filter is_empty zs)) (by (λ z. room_of g.capacity z.1) is_idle_active) empty)
    (take_names is_idle_active t count (λ z h. h) (least key (filter is_idle_active zs)) (by key is_idle_active))))))

-- no zone before the first one that passes does
abbrev pub IsFirst : (Numbered → Bool) → List ZoneState → ℕ → Option Numbered → Type 0
IsFirst p zs i None = (k : ℕ) → i ≤ k → k < length zs → p (zone_here zs k) ≡ true → ⊥
IsFirst p zs i (Some z) = (k : ℕ) → i ≤ k → k < length zs → p (zone_here zs k) ≡ true → z.0 ≤ k

-- another zone that passes stands behind one that doesn't
behind : (p : Numbered → Bool) (zs : List ZoneState) (i k : ℕ) → p (zone_here zs i) ≡ false → i ≤ k → p (zone_here zs k) ≡ true → i + 1 ≤ k
behind p zs i k fails le passes =
    let other : i ≡ k → ⊥ = λ same. false≢true (sym fails ∙ ap (λ (n : ℕ). p (zone_here zs n)) same ∙ passes) in
    omega arith

first_is_first : (p : Numbered → Bool) (zs : List ZoneState) (i : ℕ) (o : Option Numbered) → p (zone_here zs i) ≡ false → IsFirst p zs (i + 1) o → IsFirst p zs i o
first_is_first p zs i None fails rest = λ k le lt passes. rest k (behind p zs i k fails le passes) lt passes
first_is_first p zs i (Some z) fails rest = λ k le lt passes. rest k (behind p zs i k fails le passes) lt passes

-- the walk finds it
pub walk_is_first : (p : Numbered → Bool) (zs : List ZoneState) (n i : ℕ) → i + n ≡ length zs → IsFirst p zs i (first (filter p (zones_from i zs)))
walk_is_first p zs zero i ends =
    let past : length zs ≤ i = omega arith in
    subst (λ (l : List Numbered). IsFirst p zs i (first l)) (sym (filter-end p zs i past)) (λ k le lt passes. absurd (omega arith))
walk_is_first p zs (suc n) i ends = go (p (zone_here zs i)) refl (walk_is_first p zs n (i + 1) (omega arith))
  where
    in_range : i < length zs
    in_range = omega arith

    go : (b : Bool) → p (zone_here zs i) ≡ b → IsFirst p zs (i + 1) (first (filter p (zones_from (i + 1) zs))) → IsFirst p zs i (first (filter p (zones_from i zs)))
    go true here rest = subst (λ (l : List Numbered). IsFirst p zs i (first l)) (sym (filter-passes p zs i in_range here)) (λ k le lt passes. le)
    go false here rest =
        subst (λ (l : List Numbered). IsFirst p zs i (first l)) (sym (filter-fails p zs i in_range here))
        (first_is_first p zs i (first (filter p (zones_from (i + 1) zs))) here rest)

-- the zone that may be reset
pub lowest_is : (t : ZoneTableState) → length t.zones ≡ t.geometry.zones → 3 ≤ t.geometry.zones → IsLowestResettable t (resettable t.zones)
unfolding resettable
lowest_is t count some =
    go (first (filter is_resettable (data_zones t.zones)))
    (first_is (IsFound is_resettable t.zones) (filter is_resettable (data_zones t.zones)) (all_found is_resettable t.zones))
    (walk_is_first is_resettable t.zones (t.geometry.zones - 3) 3 (omega arith))
  where
    go : (o : Option Numbered) → IfSome o (IsFound is_resettable t.zones) → IsFirst is_resettable t.zones 3 o → IsLowestResettable t (option_map (λ z. z.0) o)
    go None found lowest = λ zone named. lowest zone named.behind_metadata (omega (arith, named.is_zone, count)) named.passes
    go (Some z) found lowest = (
      named_is is_resettable is_resettable t count (λ y h. h) z found,
      λ zone named. lowest zone named.behind_metadata (omega (arith, named.is_zone, count)) named.passes,
    )

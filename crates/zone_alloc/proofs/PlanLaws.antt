-- A candidate has a plan where its live blocks have a destination that gains a block.
use Rattle.std.proofs.Common.{◌≡◌, ℕ, ◌+◌, ◌≤◌, max, Bool, true, false, ◌&&◌, cond, List, [], ◌∷◌, filter, Option, Some, None, is_some, nat_lt, nat_le, refl, sym, ◌∙◌, ap, arith}
use Rattle.std.proofs.lemmas.Bool.Decides.{nat_tests}
use Rattle.std.proofs.lemmas.List.Elements.{filter_agree}
use Rattle.fs_model.specs.declared.policy.Before.{Before}
use Rattle.fs_model.specs.declared.policy.Plan.{Plan}
use Rattle.fs_model.specs.ZonePolicy.{Numbered, is_empty, is_idle_active, room_of, first, least, or_else}
use Rattle.fs_model.specs.VictimPolicy.{in_own, in_zone, finish_own, release_own, room_lost, destination, own_zone, plan_to, plan_for, plan_for_picked, is_candidate, threshold, victim_among}
use Rattle.zone_alloc.specs.declared.collecting.Destinations.{Destinations}
use Rattle.zone_alloc.specs.Destinations.{live_percent, is_eligible, room_bound, allowed_zone, may_open, destinations_of, near_destination, gains_at, gains, place_of}

-- a zone with room for so many blocks, or none with so much
abbrev roomy : ℕ → ℕ → Numbered → Bool
roomy capacity live z = is_idle_active z && nat_le live (room_of capacity z.1)

below_none : (live : ℕ) → false ≡ nat_lt live 0
below_none live = grind (arith, nat_tests)

fits : (live room bound : ℕ) → nat_le live room ≡ true → true ≡ nat_lt live (max (room + 1) bound)
fits live room bound le = grind (arith, nat_tests)

fits_not : (live room bound : ℕ) → nat_le live room ≡ false → nat_lt live bound ≡ nat_lt live (max (room + 1) bound)
fits_not live room bound le = grind (arith, nat_tests)

-- what the next zone adds
roomy-step : (capacity live : ℕ) (z : Numbered) (rest : List Numbered) (bound : ℕ) (active fit : Bool) → nat_le live (room_of capacity z.1) ≡ fit
    → is_some (first rest) ≡ nat_lt live bound
    → is_some (first (cond (active && fit) (z ∷ rest) rest)) ≡ nat_lt live (cond active (max (room_of capacity z.1 + 1) bound) bound)
roomy-step capacity live z rest bound false fit e same = same
roomy-step capacity live z rest bound true true e same = fits live (room_of capacity z.1) bound e
roomy-step capacity live z rest bound true false e same = same ∙ fits_not live (room_of capacity z.1) bound e

pub roomy_is : (capacity live : ℕ) (zs : List Numbered) → is_some (first (filter (roomy capacity live) zs)) ≡ nat_lt live (room_bound capacity zs)
roomy_is capacity live [] = below_none live
roomy_is capacity live (z ∷ zs) =
    roomy-step capacity live z (filter (roomy capacity live) zs) (room_bound capacity zs) (is_idle_active z) (nat_le live (room_of capacity z.1)) refl (roomy_is capacity live zs)

-- a place that is allowed
allowed_is : (allowed : Bool) (before : Before) (z : Option Numbered) → in_zone true before (allowed_zone allowed z) ≡ in_zone allowed before z
allowed_is true before z = refl
allowed_is false before None = refl
allowed_is false before (Some z) = refl

or_else-or_else : {X : Type 0} (a b c : Option X) → or_else (or_else a b) c ≡ or_else a (or_else b c)
or_else-or_else None b c = refl
or_else-or_else (Some x) b c = refl

-- the destination of so many live blocks
pub place_is : (capacity limit : ℕ) (zs : List Numbered) (live : ℕ) → place_of (destinations_of capacity limit zs) zs live ≡ destination capacity limit zs (own_zone zs) live
place_is capacity limit zs live =
    let own = own_zone zs in
    let near = in_own capacity live own in
    let last = in_zone true (release_own own) (first (filter (roomy capacity live) zs)) in
    ap (λ (b : Option (ℕ × Before)). or_else (or_else near b) last) (allowed_is (may_open limit zs) (finish_own own) (first (filter is_empty zs)))
    ∙ or_else-or_else near (in_zone (may_open limit zs) (finish_own own) (first (filter is_empty zs))) last

-- no room is lost where the zone is only given back
none_lost : (capacity : ℕ) (own : Option Numbered) → room_lost capacity (release_own own) own ≡ 0
none_lost capacity None = refl
none_lost capacity (Some z) = refl

is_some_if : {X : Type 0} (b : Bool) (x : X) → is_some (cond b (Some x) None) ≡ b
is_some_if true x = refl
is_some_if false x = refl

-- whether a plan is there
plan_is : (d : Destinations) (z : Numbered) (near : Option (ℕ × Before)) (far : Option Numbered) → is_some far ≡ nat_lt z.1.live d.room_bound
    → is_some (plan_to d.capacity z d.own (or_else near (in_zone true (release_own d.own) far))) ≡ gains_at d z.1.live near
plan_is d z (Some place) far e =
    is_some_if (nat_lt (z.1.live + room_lost d.capacity place.1 d.own) d.capacity) (record { victim = z.0; dest = place.0; before = place.1 })
plan_is d z None None e = ap (λ b. b && nat_lt z.1.live d.capacity) e
plan_is d z None (Some other) e =
    let before = release_own d.own in
    let lost : z.1.live + room_lost d.capacity before d.own ≡ z.1.live = omega (arith, none_lost d.capacity d.own) in
    is_some_if (nat_lt (z.1.live + room_lost d.capacity before d.own) d.capacity) (record { victim = z.0; dest = other.0; before = before })
    ∙ ap (λ (n : ℕ). nat_lt n d.capacity) lost
    ∙ ap (λ b. b && nat_lt z.1.live d.capacity) e

pub gains_is : (capacity limit : ℕ) (zs : List Numbered) (z : Numbered) → is_some (plan_for capacity limit zs z) ≡ gains (destinations_of capacity limit zs) z.1.live
gains_is capacity limit zs z =
    let d = destinations_of capacity limit zs in
    ap (λ (p : Option (ℕ × Before)). is_some (plan_to capacity z (own_zone zs) p)) (sym (place_is capacity limit zs z.1.live))
    ∙ plan_is d z (near_destination d z.1.live) (first (filter (roomy capacity z.1.live) zs)) (roomy_is capacity z.1.live zs)

-- the plan for the zone that was picked
abbrev pub planned : Destinations → List Numbered → Option Numbered → Option Plan
planned d zs None = None
planned d zs (Some z) = plan_to d.capacity z d.own (place_of d zs z.1.live)

planned_is : (capacity limit : ℕ) (zs : List Numbered) (picked : Option Numbered) → planned (destinations_of capacity limit zs) zs picked ≡ plan_for_picked capacity limit zs picked
planned_is capacity limit zs None = refl
planned_is capacity limit zs (Some z) = ap (plan_to capacity z (own_zone zs)) (place_is capacity limit zs z.1.live)

-- the victim, where something may be collected
pub victim_is : (capacity limit percent : ℕ) (zs : List Numbered) → nat_lt 20 percent ≡ false
    → planned (destinations_of capacity limit zs) zs (least (live_percent capacity) (filter (is_eligible (threshold percent) (destinations_of capacity limit zs)) zs)) ≡ victim_among capacity limit percent zs
victim_is capacity limit percent zs low =
    let d = destinations_of capacity limit zs in
    let p = λ (z : Numbered). is_candidate capacity (threshold percent) z && is_some (plan_for capacity limit zs z) in
    let same : filter (is_eligible (threshold percent) d) zs ≡ filter p zs =
    filter_agree (is_eligible (threshold percent) d) p (λ z. ap (λ b. is_candidate capacity (threshold percent) z && b) (sym (gains_is capacity limit zs z))) zs in
    let picked = least (live_percent capacity) (filter p zs) in
    ap (λ (l : List Numbered). planned d zs (least (live_percent capacity) l)) same
    ∙ planned_is capacity limit zs picked
    ∙ sym (ap (λ b. cond b None (plan_for_picked capacity limit zs picked)) low)

-- the plan for the zone that a walk picked
pub victim_from : (capacity limit percent limit_percent : ℕ) (zs : List Numbered) (d : Destinations) (picked : Option Numbered) → percent ≤ 20
    → d ≡ destinations_of capacity limit zs → limit_percent ≡ threshold percent
    → picked ≡ least (live_percent d.capacity) (filter (is_eligible limit_percent d) zs) → planned d zs picked ≡ victim_among capacity limit percent zs
victim_from capacity limit percent limit_percent zs d picked low made above walked =
    let few : nat_lt 20 percent ≡ false = grind (arith, nat_tests) in
    ap (planned d zs) walked
    ∙ ap (λ (e : Destinations). planned e zs (least (live_percent e.capacity) (filter (is_eligible limit_percent e) zs))) made
    ∙ ap (λ (n : ℕ). planned (destinations_of capacity limit zs) zs (least (live_percent capacity) (filter (is_eligible n (destinations_of capacity limit zs)) zs))) above
    ∙ victim_is capacity limit percent zs few

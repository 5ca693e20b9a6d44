-- The zones that the policy names are ones that nobody holds.
use Rattle.std.specs.Prelude.{◌≡◌, ⊤, ℕ, zero, suc, ◌+◌, Bool, true, false, not, ◌&&◌, ◌||◌, ◌==◌, nat_lt, List, [], ◌∷◌, map, filter, drop, Option, Some, None, refl, if◌then◌else◌}
use Rattle.std.specs.List.{AllByRecursion, enumerate_from}
use Rattle.std.proofs.Common.{sym, ◌∙◌, ap, arith}
use Rattle.zone_image.specs.declared.Geometry.{Geometry}
use Rattle.fs_model.specs.declared.policy.Choice.{Choice}
use Rattle.fs_model.specs.declared.policy.Choice.TheVariants as choices
use Rattle.fs_model.specs.ZonePolicy.{Numbered, data_zones, is_idle, is_idle_owner, is_open, has_blocks, is_empty, is_idle_active, lesser, least, first, or_else, take_zone, fresh_zone, finish_for, choice_among, choice_or, choose_zone, token_is_free, empty_is_allowed, zone_difference, room_of}
use Rattle.fs_model.specs.VictimPolicy.{is_resettable}
use Rattle.fs_model.specs.FsState.{FsState, ZoneDescriptor, descriptor_at, descriptor_in, state_of, zone_states}
use Rattle.fs_model.specs.LogSteps.{resettable_zones}

-- nobody holds the zone of this number
abbrev pub IsIdleAt : FsState → ℕ → Type 0
IsIdleAt s n = is_idle_owner (descriptor_at s n).owner ≡ true

-- a zone as the policy sees it has the owner that the state says
abbrev HasItsOwner : FsState → Numbered → Type 0
HasItsOwner s z = z.1.owner ≡ (descriptor_at s z.0).owner

-- each of the last zones of a state, numbered from their first one
owners_from : (s : FsState) (i : ℕ) (zs : List ZoneDescriptor) → ((j : ℕ) → descriptor_in zs j ≡ descriptor_at s (i + j))
    → AllByRecursion (HasItsOwner s) (enumerate_from i (map (state_of s) (enumerate_from i zs)))
owners_from s i [] same = tt
owners_from s i (z ∷ zs) same =
    let here : i + 0 ≡ i = omega arith in (
      ap (λ d. d.owner) (same 0 ∙ ap (λ n. descriptor_at s n) here),
      owners_from s (i + 1) zs (λ j. let next : i + suc j ≡ i + 1 + j = omega arith in same (suc j) ∙ ap (λ n. descriptor_at s n) next),
    )

-- what holds of each holds of each of the last
all_drop : {X : Type 0} → (P : X → Type 0) (k : ℕ) (xs : List X) → AllByRecursion P xs → AllByRecursion P (drop k xs)
all_drop P zero xs h = h
all_drop P (suc k) [] h = tt
all_drop P (suc k) (x ∷ xs) h = all_drop P k xs h.1

-- so each data zone has its owner
owners : (s : FsState) → AllByRecursion (HasItsOwner s) (data_zones (zone_states s))
owners s = all_drop (HasItsOwner s) 3 (enumerate_from 0 (zone_states s)) (owners_from s 0 s.zones (λ j. let here : j ≡ 0 + j = omega arith in ap (λ n. descriptor_at s n) here))

-- one of two lists
one_of : {X : Type 0} → (P : X → Type 0) (b : Bool) (x : X) (xs : List X) → (b ≡ true → P x) → AllByRecursion P xs → AllByRecursion P (if b then x ∷ xs else xs)
one_of P true x xs here rest = (here refl, rest)
one_of P false x xs here rest = rest

-- what a filter keeps passes its test
all_filter : {X : Type 0} → (P Q : X → Type 0) (test : X → Bool) (xs : List X) → ((x : X) → P x → test x ≡ true → Q x) → AllByRecursion P xs → AllByRecursion Q (filter test xs)
all_filter P Q test [] gives h = tt
all_filter P Q test (x ∷ xs) gives h = one_of Q (test x) x (filter test xs) (gives x h.0) (all_filter P Q test xs gives h.1)

-- what holds of each number holds of the list of numbers
all_numbers : (P : ℕ → Type 0) (zs : List Numbered) → AllByRecursion (λ z. P z.0) zs → AllByRecursion P (map (λ z. z.0) zs)
all_numbers P [] h = tt
all_numbers P (z ∷ zs) h = (h.0, all_numbers P zs h.1)

-- a zone that is idle by the policy is so by the state
idle_at : (s : FsState) (z : Numbered) → HasItsOwner s z → is_idle z.1 ≡ true → IsIdleAt s z.0
idle_at s z own idle = ap (λ o. is_idle_owner o) (sym own) ∙ idle

-- the first of two tests that hold
first_holds : (a b : Bool) → (a && b) ≡ true → a ≡ true
first_holds true b h = refl
first_holds false b h = h

-- a zone that may be reset is idle
pub resettable_idle : (s : FsState) → AllByRecursion (IsIdleAt s) (resettable_zones s)
resettable_idle s =
    all_numbers (IsIdleAt s) (filter is_resettable (data_zones (zone_states s)))
    (all_filter (HasItsOwner s) (λ z. IsIdleAt s z.0) is_resettable (data_zones (zone_states s))
    (λ z own test. idle_at s z own (first_holds (is_idle z.1) (has_blocks z.1 || z.1.info.sealed) (first_holds (is_idle z.1 && (has_blocks z.1 || z.1.info.sealed)) (z.1.live == 0) test)))
    (owners s))

-- ---- the choice

-- a zone of a choice, if there is one, is idle
abbrev IsIdleOption : FsState → Option Numbered → Type 0
IsIdleOption s None = ⊤
IsIdleOption s (Some z) = IsIdleAt s z.0

-- the zones of a choice are idle
abbrev pub NamesIdle : FsState → Choice → Type 0
NamesIdle s (choices.Take zone) = IsIdleAt s zone
NamesIdle s (choices.Fresh zone) = IsIdleAt s zone
NamesIdle s (choices.FinishFresh old zone) = IsIdleAt s old × IsIdleAt s zone
NamesIdle s choices.Busy = ⊤
NamesIdle s choices.NoSpace = ⊤

-- the same of a choice that isn't made yet
abbrev MayNameIdle : FsState → Option Choice → Type 0
MayNameIdle s None = ⊤
MayNameIdle s (Some c) = NamesIdle s c

-- the lesser of two
idle_lesser : (s : FsState) (key : Numbered → ℕ) (z : Numbered) (other : Option Numbered) → IsIdleAt s z.0 → IsIdleOption s other → IsIdleOption s (lesser key z other)
idle_lesser s key z None a b = a
idle_lesser s key z (Some y) a b = pick (nat_lt (key y) (key z))
  where
    pick : (c : Bool) → IsIdleOption s (if c then Some y else Some z)
    pick true = b
    pick false = a

-- the least of a list
idle_least : (s : FsState) (key : Numbered → ℕ) (zs : List Numbered) → AllByRecursion (λ z. IsIdleAt s z.0) zs → IsIdleOption s (least key zs)
idle_least s key [] h = tt
idle_least s key (z ∷ zs) h = idle_lesser s key z (least key zs) h.0 (idle_least s key zs h.1)

-- the first of a list
idle_first : (s : FsState) (zs : List Numbered) → AllByRecursion (λ z. IsIdleAt s z.0) zs → IsIdleOption s (first zs)
idle_first s [] h = tt
idle_first s (z ∷ zs) h = h.0

-- one rule or the next
idle_or : (s : FsState) (a b : Option Choice) → MayNameIdle s a → MayNameIdle s b → MayNameIdle s (or_else a b)
idle_or s None b h k = k
idle_or s (Some c) b h k = h

-- a zone is taken
idle_take : (s : FsState) (z : Option Numbered) → IsIdleOption s z → MayNameIdle s (take_zone z)
idle_take s None h = tt
idle_take s (Some z) h = h

-- where it is allowed
idle_if : (s : FsState) (allowed : Bool) (c : Choice) → NamesIdle s c → MayNameIdle s (if allowed then Some c else None)
idle_if s true c h = h
idle_if s false c h = tt

-- an empty zone is opened
idle_fresh : (s : FsState) (allowed : Bool) (z : Option Numbered) → IsIdleOption s z → MayNameIdle s (fresh_zone allowed z)
idle_fresh s allowed None h = tt
idle_fresh s allowed (Some z) h = idle_if s allowed (choices.Fresh z.0) h

-- one is finished, and an empty one opened
idle_finish : (s : FsState) (allowed : Bool) (old new : Option Numbered) → IsIdleOption s old → IsIdleOption s new → MayNameIdle s (finish_for allowed old new)
idle_finish s allowed None new h k = tt
idle_finish s allowed (Some old) None h k = tt
idle_finish s allowed (Some old) (Some new) h k = idle_if s allowed (choices.FinishFresh old.0 new.0) (h, k)

-- the answer where no rule gives one
idle_answer : (s : FsState) (free : Bool) (c : Option Choice) → MayNameIdle s c → NamesIdle s (choice_or free c)
idle_answer s true None h = tt
idle_answer s false None h = tt
idle_answer s free (Some c) h = h

-- an active zone of the policy is idle
active_idle : (z : Numbered) → is_idle_active z ≡ true → is_idle z.1 ≡ true
active_idle z h = first_holds (is_idle z.1) (is_open z.1) (first_holds (is_idle z.1 && is_open z.1) (has_blocks z.1) h)

-- so is an empty one
empty_idle : (z : Numbered) → is_empty z ≡ true → is_idle z.1 ≡ true
empty_idle z h = first_holds (is_idle z.1) (is_open z.1) (first_holds (is_idle z.1 && is_open z.1) (not (has_blocks z.1)) h)

-- the zones that pass a test which idle zones alone pass
passing : (s : FsState) (test : Numbered → Bool) → ((z : Numbered) → test z ≡ true → is_idle z.1 ≡ true)
    → AllByRecursion (λ z. IsIdleAt s z.0) (filter test (data_zones (zone_states s)))
passing s test idle =
    all_filter (HasItsOwner s) (λ z. IsIdleAt s z.0) test (data_zones (zone_states s)) (λ z own h. idle_at s z own (idle z h)) (owners s)

-- the zones that a writer gets are ones that nobody holds
pub choice_idle : (s : FsState) (g : Geometry) (collect : Bool) (hint : ℕ) → NamesIdle s (choose_zone g collect (zone_states s) hint)
unfolding choose_zone
choice_idle s g collect hint =
    let zs : List Numbered = data_zones (zone_states s) in
    let near : Numbered → Bool = λ z. is_idle_active z && nat_lt (zone_difference hint z) 50 in
    let equal : Numbered → Bool = λ z. is_idle_active z && (zone_difference hint z == 50) in
    let room : Numbered → ℕ = λ z. room_of g.capacity z.1 in
    let actives = passing s is_idle_active active_idle in
    let empties = idle_first s (filter is_empty zs) (passing s is_empty empty_idle) in
    let nearest = idle_least s (zone_difference hint) (filter near zs) (passing s near (λ z h. active_idle z (first_holds (is_idle_active z) (nat_lt (zone_difference hint z) 50) h))) in
    let first_equal = idle_first s (filter equal zs) (passing s equal (λ z h. active_idle z (first_holds (is_idle_active z) (zone_difference hint z == 50) h))) in
    let allowed = empty_is_allowed collect zs in
    idle_answer s (token_is_free g.active_limit zs) (choice_among g.capacity g.active_limit collect hint zs)
    (idle_or s _ _ (idle_take s _ nearest)
    (idle_or s _ _ (idle_fresh s (token_is_free g.active_limit zs && allowed) _ empties)
    (idle_or s _ _ (idle_take s _ first_equal)
    (idle_or s _ _ (idle_finish s allowed _ _ (idle_least s room (filter is_idle_active zs) actives) empties)
    (idle_take s _ (idle_least s (zone_difference hint) (filter is_idle_active zs) actives))))))

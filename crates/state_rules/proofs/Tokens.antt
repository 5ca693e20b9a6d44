-- A zone that is taken for a writer leaves one active-zone token at least.
use Rattle.std.specs.Prelude.{◌≡◌, ⊤, ℕ, suc, ◌+◌, ◌-◌, ◌≤◌, Bool, true, false, not, ◌&&◌, ◌||◌, ◌==◌, nat_lt, List, [], ◌∷◌, map, filter, drop, Option, Some, None, refl, if◌then◌else◌}
use Rattle.std.specs.List.{AllByRecursion, enumerate_from}
use Rattle.std.proofs.Common.{sym, ◌∙◌, ap, arith}
use Rattle.std.proofs.lemmas.Bool.{leb-true, and_parts, and_from}
use Rattle.fs_model.specs.declared.policy.Choice.{Choice}
use Rattle.fs_model.specs.declared.policy.Choice.TheVariants as choices
use Rattle.fs_model.specs.declared.zones.Owner.TheVariants.{Writer}
use Rattle.fs_model.specs.ZonePolicy.{Numbered, data_zones, is_idle, is_open, has_blocks, is_idle_active, lesser, least, first, or_else, take_zone, fresh_zone, finish_for, choice_among, choice_or, choose_zone, tokens_taken, collectors_token, token_is_free, empty_is_allowed, zone_difference, room_of}
use Rattle.fs_model.specs.FsState.{FsState, ZoneDescriptor, descriptor_at, descriptor_in, on_descriptor, state_of, zone_states, collects}
use Rattle.fs_model.specs.LogSteps.{finish_zone, open_zone}
use Rattle.fs_model.specs.FileSteps.{take_chosen}
use Rattle.state_rules.specs.Tokens.{LeavesToken, TakeLeavesToken}
use Rattle.state_rules.proofs.TokenCounts.{is_token, tokens_in, tokens_are, no_more_behind, one_more_behind, one_less_behind}

-- a data zone, as the state says
record Seen (s : FsState) (z : Numbered) : Type 0 where
  same : z.1 ≡ state_of s (z.0, descriptor_at s z.0)
  data_zone : 3 ≤ z.0

seen_from : (s : FsState) (i : ℕ) (zs : List ZoneDescriptor) → 3 ≤ i → ((j : ℕ) → descriptor_in zs j ≡ descriptor_at s (i + j))
    → AllByRecursion (Seen s) (enumerate_from i (map (state_of s) (enumerate_from i zs)))
seen_from s i [] low same = tt
seen_from s i (z ∷ zs) low same =
    let here : i + 0 ≡ i = omega arith in (
      record { same = ap (λ d. state_of s (i, d)) (same 0 ∙ ap (λ n. descriptor_at s n) here); data_zone = low },
      seen_from s (i + 1) zs (omega (arith, low)) (λ j. let next : i + suc j ≡ i + 1 + j = omega arith in same (suc j) ∙ ap (λ n. descriptor_at s n) next),
    )

seen_data : (s : FsState) (zs : List ZoneDescriptor) → ((j : ℕ) → descriptor_in zs j ≡ descriptor_at s j) → AllByRecursion (Seen s) (data_zones (map (state_of s) (enumerate_from 0 zs)))
seen_data s [] same = tt
seen_data s (a ∷ []) same = tt
seen_data s (a ∷ b ∷ []) same = tt
seen_data s (a ∷ b ∷ c ∷ zs) same =
    seen_from s 3 zs (omega arith) (λ j. let number : suc (suc (suc j)) ≡ 3 + j = omega arith in same (suc (suc (suc j))) ∙ ap (λ n. descriptor_at s n) number)

seen : (s : FsState) → AllByRecursion (Seen s) (data_zones (zone_states s))
seen s = seen_data s s.zones (λ j. refl)

-- one of two lists
one_of : {X : Type 0} → (P : X → Type 0) (b : Bool) (x : X) (xs : List X) → (b ≡ true → P x) → AllByRecursion P xs → AllByRecursion P (if b then x ∷ xs else xs)
one_of P true x xs here rest = (here refl, rest)
one_of P false x xs here rest = rest

-- what a filter keeps passes its test
all_filter : {X : Type 0} → (P Q : X → Type 0) (test : X → Bool) (xs : List X) → ((x : X) → P x → test x ≡ true → Q x) → AllByRecursion P xs → AllByRecursion Q (filter test xs)
all_filter P Q test [] gives h = tt
all_filter P Q test (x ∷ xs) gives h = one_of Q (test x) x (filter test xs) (gives x h.0) (all_filter P Q test xs gives h.1)

-- a data zone that takes a token
record IsActiveAt (s : FsState) (n : ℕ) : Type 0 where
  data_zone : 3 ≤ n
  token : is_token (descriptor_at s n) ≡ true

-- a test of two that hold
or_first : (a b : Bool) → a ≡ true → a || b ≡ true
or_first true b h = refl
or_first false b h = cc

-- an active zone of the policy takes one
active_at : (s : FsState) (z : Numbered) → Seen s z → is_idle_active z ≡ true → IsActiveAt s z.0
active_at s z it h =
    let d = descriptor_at s z.0 in
    let there : is_idle_active (z.0, state_of s (z.0, d)) ≡ true = ap (λ y. is_idle_active (z.0, y)) (sym it.same) ∙ h in
    let parts = and_parts (is_idle (state_of s (z.0, d)) && is_open (state_of s (z.0, d))) (has_blocks (state_of s (z.0, d))) there in
    let open_too = (and_parts (is_idle (state_of s (z.0, d))) (is_open (state_of s (z.0, d))) parts.0).1 in
    record {
      data_zone = it.data_zone;
      token = and_from (not d.info.sealed) (nat_lt 0 d.info.written || not (is_idle (state_of s (z.0, d)))) open_too (or_first (nat_lt 0 d.info.written) (not (is_idle (state_of s (z.0, d)))) parts.1);
    }

-- the zones that pass a test which active zones alone pass
passing : (s : FsState) (test : Numbered → Bool) → ((z : Numbered) → test z ≡ true → is_idle_active z ≡ true)
    → AllByRecursion (λ z. IsActiveAt s z.0) (filter test (data_zones (zone_states s)))
passing s test active =
    all_filter (Seen s) (λ z. IsActiveAt s z.0) test (data_zones (zone_states s)) (λ z it h. active_at s z it (active z h)) (seen s)

-- ---- the choice

-- a zone of a choice, if there is one, is active
abbrev IsActiveOption : FsState → Option Numbered → Type 0
IsActiveOption s None = ⊤
IsActiveOption s (Some z) = IsActiveAt s z.0

-- an active zone is taken or finished, and an empty one opened only where a token is free or after such a finish
abbrev Fits : FsState → Bool → Choice → Type 0
Fits s free (choices.Take zone) = IsActiveAt s zone
Fits s free (choices.Fresh zone) = free ≡ true
Fits s free (choices.FinishFresh old zone) = IsActiveAt s old
Fits s free choices.Busy = ⊤
Fits s free choices.NoSpace = ⊤

-- the same of a choice that isn't made yet
abbrev MayFit : FsState → Bool → Option Choice → Type 0
MayFit s free None = ⊤
MayFit s free (Some c) = Fits s free c

active_lesser : (s : FsState) (key : Numbered → ℕ) (z : Numbered) (other : Option Numbered) → IsActiveAt s z.0 → IsActiveOption s other → IsActiveOption s (lesser key z other)
active_lesser s key z None a b = a
active_lesser s key z (Some y) a b = pick (nat_lt (key y) (key z))
  where
    pick : (c : Bool) → IsActiveOption s (if c then Some y else Some z)
    pick true = b
    pick false = a

active_least : (s : FsState) (key : Numbered → ℕ) (zs : List Numbered) → AllByRecursion (λ z. IsActiveAt s z.0) zs → IsActiveOption s (least key zs)
active_least s key [] h = tt
active_least s key (z ∷ zs) h = active_lesser s key z (least key zs) h.0 (active_least s key zs h.1)

active_first : (s : FsState) (zs : List Numbered) → AllByRecursion (λ z. IsActiveAt s z.0) zs → IsActiveOption s (first zs)
active_first s [] h = tt
active_first s (z ∷ zs) h = h.0

fits_or : (s : FsState) (free : Bool) (a b : Option Choice) → MayFit s free a → MayFit s free b → MayFit s free (or_else a b)
fits_or s free None b h k = k
fits_or s free (Some c) b h k = h

fits_take : (s : FsState) (free : Bool) (z : Option Numbered) → IsActiveOption s z → MayFit s free (take_zone z)
fits_take s free None h = tt
fits_take s free (Some z) h = h

fits_fresh : (s : FsState) (free allowed : Bool) (z : Option Numbered) → MayFit s free (fresh_zone (free && allowed) z)
fits_fresh s free allowed None = tt
fits_fresh s true true (Some z) = refl
fits_fresh s true false (Some z) = tt
fits_fresh s false allowed (Some z) = tt

fits_finish : (s : FsState) (free allowed : Bool) (old new : Option Numbered) → IsActiveOption s old → MayFit s free (finish_for allowed old new)
fits_finish s free allowed None new h = tt
fits_finish s free allowed (Some old) None h = tt
fits_finish s free true (Some old) (Some new) h = h
fits_finish s free false (Some old) (Some new) h = tt

fits_answer : (s : FsState) (free space : Bool) (c : Option Choice) → MayFit s free c → Fits s free (choice_or space c)
fits_answer s free true None h = tt
fits_answer s free false None h = tt
fits_answer s free space (Some c) h = h

-- the choice fits
chosen_fits : (s : FsState) (collect : Bool) (hint : ℕ) → Fits s (token_is_free s.geometry.active_limit (data_zones (zone_states s))) (choose_zone s.geometry collect (zone_states s) hint)
unfolding choose_zone
chosen_fits s collect hint =
    let g = s.geometry in
    let zs : List Numbered = data_zones (zone_states s) in
    let free : Bool = token_is_free g.active_limit zs in
    let near : Numbered → Bool = λ z. is_idle_active z && nat_lt (zone_difference hint z) 50 in
    let equal : Numbered → Bool = λ z. is_idle_active z && (zone_difference hint z == 50) in
    let room : Numbered → ℕ = λ z. room_of g.capacity z.1 in
    let actives = passing s is_idle_active (λ z h. h) in
    let nearest = active_least s (zone_difference hint) (filter near zs) (passing s near (λ z h. (and_parts (is_idle_active z) (nat_lt (zone_difference hint z) 50) h).0)) in
    let first_equal = active_first s (filter equal zs) (passing s equal (λ z h. (and_parts (is_idle_active z) (zone_difference hint z == 50) h).0)) in
    let allowed = empty_is_allowed collect zs in
    fits_answer s free free (choice_among g.capacity g.active_limit collect hint zs)
    (fits_or s free _ _ (fits_take s free _ nearest)
    (fits_or s free _ _ (fits_fresh s free allowed _)
    (fits_or s free _ _ (fits_take s free _ first_equal)
    (fits_or s free _ _ (fits_finish s free allowed _ _ (active_least s room (filter is_idle_active zs) actives))
    (fits_take s free _ (active_least s (zone_difference hint) (filter is_idle_active zs) actives))))))

-- ---- the step

-- a count that is free leaves one more
free_leaves : (taken own limit : ℕ) → own ≤ 1 → taken - own + 1 ≤ limit - 2 → taken + 1 ≤ limit - 1
free_leaves taken own limit few h = omega (arith, few, h)

-- the collector's token is one at most
one_at_most : (zs : List Numbered) → collectors_token zs ≤ 1
one_at_most zs = omega arith

-- what is opened for a writer
opened : ℕ → ℕ → ZoneDescriptor → ZoneDescriptor
opened id hint z = record z { owner = Writer id; hint = if z.info.written == 0 then hint else z.hint }

-- what is finished
closed : ZoneDescriptor → ZoneDescriptor
closed z = record z { info = record { written = z.info.written; sealed = true } }

leaves : (s : FsState) (id hint : ℕ) (c : Choice) → Fits s (token_is_free s.geometry.active_limit (data_zones (zone_states s))) c → LeavesToken s → LeavesToken (take_chosen id hint c s).last
unfolding opened closed
leaves s id hint (choices.Take zone) fits few =
    let count : tokens_in (drop 3 (on_descriptor zone (opened id hint) s.zones)) ≤ tokens_in (drop 3 s.zones) = no_more_behind 3 zone (opened id hint) s.zones (λ _. fits.token) in
    omega (arith, tokens_are s, tokens_are (open_zone (Writer id) hint zone s).last, count, few)
leaves s id hint (choices.Fresh zone) fits few =
    let zs = data_zones (zone_states s) in
    let count : tokens_in (drop 3 (on_descriptor zone (opened id hint) s.zones)) ≤ tokens_in (drop 3 s.zones) + 1 = one_more_behind 3 zone (opened id hint) s.zones in
    let free : tokens_taken zs + 1 ≤ s.geometry.active_limit - 1 =
    free_leaves (tokens_taken zs) (collectors_token zs) s.geometry.active_limit (one_at_most zs) (leb-true (tokens_taken zs - collectors_token zs + 1) (s.geometry.active_limit - 2) fits) in
    omega (arith, tokens_are s, tokens_are (open_zone (Writer id) hint zone s).last, count, free)
leaves s id hint (choices.FinishFresh old zone) fits few =
    let middle = on_descriptor old closed s.zones in
    let less : tokens_in (drop 3 middle) + 1 ≤ tokens_in (drop 3 s.zones) = one_less_behind 3 old closed s.zones fits.data_zone fits.token refl in
    let count : tokens_in (drop 3 (on_descriptor zone (opened id hint) middle)) ≤ tokens_in (drop 3 middle) + 1 = one_more_behind 3 zone (opened id hint) middle in
    omega (arith, tokens_are s, tokens_are (open_zone (Writer id) hint zone (finish_zone old s).last).last, less, count, few)
leaves s id hint choices.Busy fits few = few
leaves s id hint choices.NoSpace fits few = few

pub take_leaves_token : TakeLeavesToken
take_leaves_token s id hint few = leaves s id hint (choose_zone s.geometry (collects s) (zone_states s) hint) (chosen_fits s (collects s) hint) few

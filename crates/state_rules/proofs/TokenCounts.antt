-- How many zones count against the limit after a step on one zone.
use Rattle.std.specs.Prelude.{◌≡◌, ℕ, zero, suc, ◌+◌, ◌≤◌, Bool, true, false, not, ◌&&◌, ◌||◌, cond, List, [], ◌∷◌, map, drop, nat_lt, count_by, refl}
use Rattle.std.specs.List.{enumerate_from}
use Rattle.std.proofs.Common.{◌∙◌, ap, sym, arith}
use Rattle.std.proofs.lemmas.Bool.{false≢true}
use Rattle.std.proofs.lemmas.List.Sums.{sum_by-cons}
use Rattle.fs_model.specs.ZonePolicy.{is_idle_owner, data_zones, takes_a_token, tokens_taken}
use Rattle.fs_model.specs.FsState.{FsState, ZoneDescriptor, descriptor_in, on_descriptor, state_of, zone_states}

-- takes one of the active zones that the device allows
abbrev pub is_token : ZoneDescriptor → Bool
is_token z = not z.info.sealed && (nat_lt 0 z.info.written || not (is_idle_owner z.owner))

-- one or none
abbrev bit : Bool → ℕ
bit b = cond b 1 0

-- the zones that do
abbrev pub tokens_in : List ZoneDescriptor → ℕ
tokens_in zs = count_by is_token zs

one_and_rest : (z : ZoneDescriptor) (zs : List ZoneDescriptor) → tokens_in (z ∷ zs) ≡ bit (is_token z) + tokens_in zs
one_and_rest z zs = sum_by-cons (λ y. bit (is_token y)) z zs

-- by the policy they are as many
tokens_from : (s : FsState) (i : ℕ) (zs : List ZoneDescriptor) → count_by takes_a_token (enumerate_from i (map (state_of s) (enumerate_from i zs))) ≡ tokens_in zs
tokens_from s i [] = refl
tokens_from s i (z ∷ zs) =
    sum_by-cons (λ x. bit (takes_a_token x)) (i, state_of s (i, z)) (enumerate_from (i + 1) (map (state_of s) (enumerate_from (i + 1) zs)))
    ∙ ap (λ n. bit (is_token z) + n) (tokens_from s (i + 1) zs) ∙ sym (one_and_rest z zs)

tokens_of_data : (s : FsState) (zs : List ZoneDescriptor) → tokens_taken (data_zones (map (state_of s) (enumerate_from 0 zs))) ≡ tokens_in (drop 3 zs)
tokens_of_data s [] = refl
tokens_of_data s (a ∷ []) = refl
tokens_of_data s (a ∷ b ∷ []) = refl
tokens_of_data s (a ∷ b ∷ c ∷ zs) = tokens_from s 3 zs

pub tokens_are : (s : FsState) → tokens_taken (data_zones (zone_states s)) ≡ tokens_in (drop 3 s.zones)
tokens_are s = tokens_of_data s s.zones

-- ---- one zone changes

bit_le : (a b : Bool) → (a ≡ true → b ≡ true) → bit a ≤ bit b
bit_le true true h = omega arith
bit_le true false h = absurd (false≢true (h refl))
bit_le false b h = omega arith

bit_small : (a : Bool) → bit a ≤ 1
bit_small true = omega arith
bit_small false = omega arith

-- a zone that takes a token only where it took one
no_more : (n : ℕ) (f : ZoneDescriptor → ZoneDescriptor) (zs : List ZoneDescriptor) → (is_token (f (descriptor_in zs n)) ≡ true → is_token (descriptor_in zs n) ≡ true)
    → tokens_in (on_descriptor n f zs) ≤ tokens_in zs
no_more n f [] h = omega arith
no_more zero f (z ∷ zs) h = omega (arith, one_and_rest (f z) zs, one_and_rest z zs, bit_le (is_token (f z)) (is_token z) h)
no_more (suc n) f (z ∷ zs) h = omega (arith, one_and_rest z (on_descriptor n f zs), one_and_rest z zs, no_more n f zs h)

-- any zone
one_more : (n : ℕ) (f : ZoneDescriptor → ZoneDescriptor) (zs : List ZoneDescriptor) → tokens_in (on_descriptor n f zs) ≤ tokens_in zs + 1
one_more n f [] = omega arith
one_more zero f (z ∷ zs) = omega (arith, one_and_rest (f z) zs, one_and_rest z zs, bit_small (is_token (f z)))
one_more (suc n) f (z ∷ zs) = omega (arith, one_and_rest z (on_descriptor n f zs), one_and_rest z zs, one_more n f zs)

-- a zone that gives its token back
one_less : (n : ℕ) (f : ZoneDescriptor → ZoneDescriptor) (zs : List ZoneDescriptor) → is_token (descriptor_in zs n) ≡ true → is_token (f (descriptor_in zs n)) ≡ false
    → tokens_in (on_descriptor n f zs) + 1 ≤ tokens_in zs
one_less n f [] h g = absurd (false≢true h)
one_less zero f (z ∷ zs) h g = omega (arith, one_and_rest (f z) zs, one_and_rest z zs, ap bit h, ap bit g)
one_less (suc n) f (z ∷ zs) h g = omega (arith, one_and_rest z (on_descriptor n f zs), one_and_rest z zs, one_less n f zs h g)

-- the same of the zones behind the first k
pub no_more_behind : (k n : ℕ) (f : ZoneDescriptor → ZoneDescriptor) (zs : List ZoneDescriptor) → (is_token (f (descriptor_in zs n)) ≡ true → is_token (descriptor_in zs n) ≡ true)
    → tokens_in (drop k (on_descriptor n f zs)) ≤ tokens_in (drop k zs)
no_more_behind zero n f zs h = no_more n f zs h
no_more_behind (suc k) n f [] h = omega arith
no_more_behind (suc k) zero f (z ∷ zs) h = omega arith
no_more_behind (suc k) (suc n) f (z ∷ zs) h = no_more_behind k n f zs h

pub one_more_behind : (k n : ℕ) (f : ZoneDescriptor → ZoneDescriptor) (zs : List ZoneDescriptor) → tokens_in (drop k (on_descriptor n f zs)) ≤ tokens_in (drop k zs) + 1
one_more_behind zero n f zs = one_more n f zs
one_more_behind (suc k) n f [] = omega arith
one_more_behind (suc k) zero f (z ∷ zs) = omega arith
one_more_behind (suc k) (suc n) f (z ∷ zs) = one_more_behind k n f zs

pub one_less_behind : (k n : ℕ) (f : ZoneDescriptor → ZoneDescriptor) (zs : List ZoneDescriptor) → k ≤ n → is_token (descriptor_in zs n) ≡ true → is_token (f (descriptor_in zs n)) ≡ false
    → tokens_in (drop k (on_descriptor n f zs)) + 1 ≤ tokens_in (drop k zs)
one_less_behind zero n f zs low h g = one_less n f zs h g
one_less_behind (suc k) n f [] low h g = absurd (false≢true h)
one_less_behind (suc k) zero f (z ∷ zs) low h g = absurd (omega (arith, low))
one_less_behind (suc k) (suc n) f (z ∷ zs) low h g = one_less_behind k n f zs (omega (arith, low)) h g

-- Extents share a byte where two of them have it, in whatever order they stand.
use Rattle.std.proofs.Common.{◌≡◌, ℕ, zero, suc, ◌+◌, ◌<◌, ◌≤◌, max, Bool, true, false, cond, ◌&&◌, ◌||◌, List, [], ◌∷◌, length, nat_lt, nat_le, count_by, refl, ◌∙◌, ap, subst, arith, zero-add}
use Rattle.std.specs.List.{All, list_any}
use Rattle.std.specs.List.Sorted.{IsPermutation, IsNonDecreasingBy}
use Rattle.std.proofs.lemmas.Bool.{or_parts, false≢true}
use Rattle.std.proofs.lemmas.Bool.Decides.{nat_tests}
use Rattle.std.proofs.lemmas.List.Elements.{All-head, All-tail}
use Rattle.std.proofs.lemmas.List.Sorted.{All-permutation, sum_by-IsPermutation}
use Rattle.std.proofs.lemmas.List.Sums.{sum_by-cons}
use Rattle.record_model.specs.declared.types.Extent.{Extent}
use Rattle.log_model.specs.FileTable.{size_of}
use Rattle.log_model.specs.Mounted.{share_a_byte, overlap}
use Rattle.mount_replay.specs.Neighbours.{extent_at, Reaches, IsBehind}

-- the extent has this byte
abbrev pub covers : ℕ → Extent → Bool
covers b x = nat_le x.start b && nat_lt b (x.start + x.len)

-- an extent has a byte
abbrev pub HasByte : Extent → Type 0
HasByte x = 0 < x.len

-- how many extents have a byte
abbrev pub times : ℕ → List Extent → ℕ
times b xs = count_by (covers b) xs

times-cons : (b : ℕ) (x : Extent) (xs : List Extent) → times b (x ∷ xs) ≡ cond (covers b x) 1 0 + times b xs
times-cons b x xs = sum_by-cons (λ y. cond (covers b y) 1 0) x xs

times-covers : (b : ℕ) (x : Extent) (xs : List Extent) → covers b x ≡ true → times b (x ∷ xs) ≡ 1 + times b xs
times-covers b x xs has = times-cons b x xs ∙ ap (λ c. cond c 1 0 + times b xs) has

times-not : (b : ℕ) (x : Extent) (xs : List Extent) → covers b x ≡ false → times b (x ∷ xs) ≡ times b xs
times-not b x xs lacks = times-cons b x xs ∙ ap (λ c. cond c 1 0 + times b xs) lacks ∙ zero-add (times b xs)

times-le : (b : ℕ) (x : Extent) (xs : List Extent) → times b xs ≤ times b (x ∷ xs)
times-le b x xs = omega (arith, times-cons b x xs)

-- extents that have a byte in common share it
both_share : (b : ℕ) (x y : Extent) → covers b x ≡ true → share_a_byte x y ≡ false → covers b y ≡ false
both_share b x y has apart = grind (arith, nat_tests)

-- and share one of them, the later start
share_both : (x y : Extent) → HasByte x → HasByte y → share_a_byte x y ≡ true → (covers (max x.start y.start) x ≡ true) × (covers (max x.start y.start) y ≡ true)
share_both x y some other share = (grind (arith, nat_tests), grind (arith, nat_tests))

none_covered : (b : ℕ) (x : Extent) (ys : List Extent) → covers b x ≡ true → list_any (share_a_byte x) ys ≡ false → times b ys ≡ 0
none_covered b x [] has apart = refl
none_covered b x (y ∷ ys) has apart =
    let parts = or_parts (share_a_byte x y) (list_any (share_a_byte x) ys) apart in
    times-not b y ys (both_share b x y has parts.0) ∙ none_covered b x ys has parts.1

-- where none share a byte, each is had by one at most
pub at_most_once : (b : ℕ) (xs : List Extent) → overlap xs ≡ false → times b xs ≤ 1
at_most_once b [] apart = omega arith
at_most_once b (x ∷ xs) apart =
    let parts = or_parts (list_any (share_a_byte x) xs) (overlap xs) apart in
    go (covers b x) refl parts.0 (at_most_once b xs parts.1)
  where
    go : (c : Bool) → covers b x ≡ c → list_any (share_a_byte x) xs ≡ false → times b xs ≤ 1 → times b (x ∷ xs) ≤ 1
    go true has none rest = omega (arith, times-covers b x xs has, none_covered b x xs has none)
    go false lacks none rest = omega (arith, times-not b x xs lacks)

-- a byte of this extent that another has
record Shared (x : Extent) (ys : List Extent) : Type 0 where
  byte : ℕ
  here : covers byte x ≡ true
  there : 1 ≤ times byte ys

some_shared : (x : Extent) (ys : List Extent) → HasByte x → All HasByte ys → list_any (share_a_byte x) ys ≡ true → Shared x ys
some_shared x [] some all share = absurd (false≢true share)
some_shared x (y ∷ ys) some all share =
    go (share_a_byte x y) refl (λ rest. some_shared x ys some (All-tail HasByte y ys all) rest) share
  where
    go : (c : Bool) → share_a_byte x y ≡ c → (list_any (share_a_byte x) ys ≡ true → Shared x ys) → (c || list_any (share_a_byte x) ys) ≡ true → Shared x (y ∷ ys)
    go true e later share =
        let both = share_both x y some (All-head HasByte y ys all) e in
        record { byte = max x.start y.start; here = both.0; there = omega (arith, times-covers (max x.start y.start) y ys both.1) }
    go false e later share =
        let found = later share in
        record { byte = found.byte; here = found.here; there = omega (arith, found.there, times-le found.byte y ys) }

-- a byte that two extents have
pub record Twice (xs : List Extent) : Type 0 where
  pub byte : ℕ
  pub two : 2 ≤ times byte xs

-- where some share a byte, there is one that two have
pub some_twice : (xs : List Extent) → All HasByte xs → overlap xs ≡ true → Twice xs
some_twice [] all share = absurd (false≢true share)
some_twice (x ∷ xs) all share = go (list_any (share_a_byte x) xs) refl (λ rest. some_twice xs (All-tail HasByte x xs all) rest) share
  where
    go : (c : Bool) → list_any (share_a_byte x) xs ≡ c → (overlap xs ≡ true → Twice xs) → (c || overlap xs) ≡ true → Twice (x ∷ xs)
    go true e later share =
        let found = some_shared x xs (All-head HasByte x xs all) (All-tail HasByte x xs all) e in
        record { byte = found.byte; two = omega (arith, found.there, times-covers found.byte x xs found.here) }
    go false e later share =
        let found = later share in
        record { byte = found.byte; two = omega (arith, found.two, times-le found.byte x xs) }

-- both or neither
pub overlap-permutation : (xs ys : List Extent) → IsPermutation xs ys → All HasByte xs → overlap ys ≡ overlap xs
overlap-permutation xs ys same all = go (overlap xs) (overlap ys) refl refl
  where
    go : (a b : Bool) → overlap xs ≡ a → overlap ys ≡ b → b ≡ a
    go true true e f = refl
    go false false e f = refl
    go true false e f =
        let found = some_twice xs all e in
        absurd (omega (arith, found.two, at_most_once found.byte ys f, sum_by-IsPermutation (λ x. cond (covers found.byte x) 1 0) xs ys same))
    go false true e f =
        let found = some_twice ys (All-permutation HasByte xs ys same all) f in
        absurd (omega (arith, found.two, at_most_once found.byte xs e, sum_by-IsPermutation (λ x. cond (covers found.byte x) 1 0) xs ys same))

-- ---- extents that rise by their starts

none_any : (p : Extent → Bool) (xs : List Extent) → ((j : ℕ) → j < length xs → p (extent_at xs j) ≡ false) → list_any p xs ≡ false
none_any p [] each = refl
none_any p (x ∷ xs) each =
    ap (λ c. c || list_any p xs) (each 0 (omega arith)) ∙ none_any p xs (λ j below. each (suc j) (omega (arith, below)))

all_apart : (xs : List Extent) → ((i j : ℕ) → i < j → j < length xs → share_a_byte (extent_at xs i) (extent_at xs j) ≡ false) → overlap xs ≡ false
all_apart [] each = refl
all_apart (x ∷ xs) each =
    ap (λ c. c || overlap xs) (none_any (share_a_byte x) xs (λ j below. each 0 (suc j) (omega arith) (omega (arith, below))))
    ∙ all_apart xs (λ i j less below. each (suc i) (suc j) (omega (arith, less)) (omega (arith, below)))

two_share : (xs : List Extent) (i : ℕ) → suc i < length xs → share_a_byte (extent_at xs i) (extent_at xs (suc i)) ≡ true → overlap xs ≡ true
two_share [] i below share = absurd (omega arith)
two_share (x ∷ []) i below share = absurd (omega arith)
two_share (x ∷ y ∷ xs) zero below share = ap (λ c. (c || list_any (share_a_byte x) xs) || overlap (y ∷ xs)) share
two_share (x ∷ y ∷ xs) (suc i) below share = ap (λ c. list_any (share_a_byte x) (y ∷ xs) || c) (two_share (y ∷ xs) i (omega (arith, below)) share) ∙ or_true (list_any (share_a_byte x) (y ∷ xs))
  where
    or_true : (c : Bool) → (c || true) ≡ true
    or_true true = refl
    or_true false = refl

reach_share : (x y : Extent) → x.start ≤ y.start → HasByte y → Reaches x y → share_a_byte x y ≡ true
reach_share x y rise some reach = grind (arith, nat_tests)

behind_apart : (x y : Extent) → x.start + x.len ≤ y.start → share_a_byte x y ≡ false
behind_apart x y behind = grind (arith, nat_tests)

-- a pair of neighbours decides
pub reached_overlap : (xs : List Extent) (i : ℕ) → IsNonDecreasingBy (λ x. x.start) xs → All HasByte xs → i + 1 < length xs → Reaches (extent_at xs i) (extent_at xs (i + 1)) → overlap xs ≡ true
reached_overlap xs i rise all below reach =
    let none : Extent = record { start = 0; len = 0 } in
    let next : suc i < length xs = omega (arith, below) in
    let same : i + 1 ≡ suc i = omega arith in
    two_share xs i next (subst (λ (n : ℕ). share_a_byte (extent_at xs i) (extent_at xs n) ≡ true) same (reach_share (extent_at xs i) (extent_at xs (i + 1)) (rise i (i + 1) none (omega arith) below) (all (i + 1) none below) reach))

pub apart_overlap : (xs : List Extent) → IsNonDecreasingBy (λ x. x.start) xs → ((i : ℕ) → i + 1 < length xs → IsBehind (extent_at xs i) (extent_at xs (i + 1))) → overlap xs ≡ false
apart_overlap xs rise apart = all_apart xs (λ i j less below.
    let none : Extent = record { start = 0; len = 0 } in
    let next : i + 1 < length xs = omega (arith, less, below) in
    behind_apart (extent_at xs i) (extent_at xs j) (omega (arith, apart i next, rise (i + 1) j none (omega (arith, less)) below)))

-- ---- the bytes of extents that stay apart

-- extents one behind the other, all within so many bytes
room_behind : (y : Extent) (ys : List Extent) (n : ℕ) → ((i : ℕ) → suc i < length (y ∷ ys) → IsBehind (extent_at (y ∷ ys) i) (extent_at (y ∷ ys) (suc i))) → All (λ x. x.start + x.len ≤ n) (y ∷ ys)
    → y.start + size_of (y ∷ ys) ≤ n
room_behind y [] n apart all = omega (arith, sum_by-cons (λ (x : Extent). x.len) y [], All-head (λ (x : Extent). x.start + x.len ≤ n) y [] all)
room_behind y (z ∷ zs) n apart all =
    let next : y.start + y.len ≤ z.start = apart 0 (omega arith) in
    let rest : z.start + size_of (z ∷ zs) ≤ n = room_behind z zs n (λ i below. apart (suc i) (omega (arith, below))) (All-tail (λ (x : Extent). x.start + x.len ≤ n) y (z ∷ zs) all) in
    omega (arith, next, rest, sum_by-cons (λ (x : Extent). x.len) y (z ∷ zs))

room_sorted : (ys : List Extent) (n : ℕ) → ((i : ℕ) → i + 1 < length ys → IsBehind (extent_at ys i) (extent_at ys (i + 1))) → All (λ x. x.start + x.len ≤ n) ys → size_of ys ≤ n
room_sorted [] n apart all = omega arith
room_sorted (y ∷ ys) n apart all =
    let by_suc : (i : ℕ) → suc i < length (y ∷ ys) → IsBehind (extent_at (y ∷ ys) i) (extent_at (y ∷ ys) (suc i)) =
    λ i below.
    let same : i + 1 ≡ suc i = omega arith in
    subst (λ (k : ℕ). IsBehind (extent_at (y ∷ ys) i) (extent_at (y ∷ ys) k)) same (apart i (omega (arith, below))) in
    omega (arith, room_behind y ys n by_suc all)

-- a list of which an order has neighbours that stay apart
pub apart_room : (xs ys : List Extent) (n : ℕ) → IsPermutation xs ys → ((i : ℕ) → i + 1 < length ys → IsBehind (extent_at ys i) (extent_at ys (i + 1))) → All (λ x. x.start + x.len ≤ n) xs → size_of xs ≤ n
apart_room xs ys n same apart all =
    omega (arith, sum_by-IsPermutation (λ (x : Extent). x.len) xs ys same, room_sorted ys n apart (All-permutation (λ (x : Extent). x.start + x.len ≤ n) xs ys same all))

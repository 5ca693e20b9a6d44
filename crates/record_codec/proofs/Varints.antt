-- Varints that are read in a bounded number of steps, and their lengths.
use Rattle.std.proofs.Common.{◌≡◌, ℕ, zero, suc, ◌+◌, ◌*◌, ◌-◌, ◌^◌, ◌/◌, ◌%◌, ◌<◌, ◌≤◌, Bool, true, false, cond, eqb, ltb, List, [], ◌∷◌, length, get_or, drop, Option, Some, None, Result, Ok, Err, refl, sym, ap, subst, ◌∙◌, ◌++◌, append_assoc, arith, lit<, inl, inr}
use Rattle.std.specs.List.{list_any}
use Rattle.std.specs.Prelude.{OnOk}
use Rattle.std.specs.declared.alloc.AllocError.{AllocError}
use Rattle.std.proofs.Math.Nat.{pow-suc, pow-le-pow_right}
use Rattle.std.proofs.lemmas.Bool.{cases_lt, cond_both, lt-ltb, le-ltb, le-leb, lt-leb, eq-eqb, ne_eqb}
use Rattle.std.proofs.Math.Bool.{or-true}
use Rattle.record_model.specs.Numbers.{varint, varint_within}
use Rattle.record_model.specs.FieldDecoding.{◌>>=◌, varint_at, behind_byte, length_in}
use Rattle.record_model.specs.declared.fault.Why.{Why}
use Rattle.record_model.specs.declared.fault.Why.TheVariants.{Short, Range}
use Rattle.record_codec.specs.BoundedVarint.{bounded_varint, too_long}

-- a byte with its top bit set goes before the rest
abbrev pub with_low : ℕ → ℕ × ℕ → Result (ℕ × ℕ) Why
with_low b v = Ok ((b - 128) + 128 * v.0, v.1 + 1)

pub bounded_at_zero : (k : ℕ) (bytes : List ℕ) → k ≡ 0 → bounded_varint k bytes ≡ Err (too_long bytes)
unfolding bounded_varint
bounded_at_zero zero bytes e = refl
bounded_at_zero (suc k) bytes e = absurd (omega arith)

pub bounded_empty : (k : ℕ) (bytes : List ℕ) → 0 < k → length bytes < 1 → bounded_varint k bytes ≡ Err Short
unfolding bounded_varint
bounded_empty zero bytes lt none = absurd (omega arith)
bounded_empty (suc k) [] lt none = refl
bounded_empty (suc k) (b ∷ bytes) lt none = absurd (omega arith)

pub bounded_last : (k : ℕ) (bytes : List ℕ) → 0 < k → 1 ≤ length bytes → get_or bytes 0 0 < 128 → bounded_varint k bytes ≡ Ok (get_or bytes 0 0, 1)
unfolding bounded_varint
bounded_last zero bytes lt some low = absurd (omega arith)
bounded_last (suc k) [] lt some low = absurd (omega arith)
bounded_last (suc k) (b ∷ bytes) lt some low = rw (lt-ltb b 128 low) refl

pub bounded_more : (k : ℕ) (bytes : List ℕ) (r : Result (ℕ × ℕ) Why) → 0 < k → 1 ≤ length bytes → 128 ≤ get_or bytes 0 0 → bounded_varint (k - 1) (drop 1 bytes) ≡ r
    → bounded_varint k bytes ≡ (r >>= with_low (get_or bytes 0 0))
unfolding bounded_varint
bounded_more zero bytes r lt some high e = absurd (omega arith)
bounded_more (suc k) [] r lt some high e = absurd (omega arith)
bounded_more (suc k) (b ∷ bytes) r lt some high e =
    let same : suc k - 1 ≡ k = omega arith in
    let rest : bounded_varint k bytes ≡ r = ap (λ (n : ℕ). bounded_varint n bytes) (sym same) ∙ e in
    rw (le-ltb b 128 high, rest) refl

pub bounded_stops : (k : ℕ) (bytes : List ℕ) (why : Why) → 0 < k → 1 ≤ length bytes → 128 ≤ get_or bytes 0 0 → bounded_varint (k - 1) (drop 1 bytes) ≡ Err why
    → bounded_varint k bytes ≡ Err why
bounded_stops k bytes why lt some high e = bounded_more k bytes (Err why) lt some high e

pub bounded_goes : (k : ℕ) (bytes : List ℕ) (high count : ℕ) → 0 < k → 1 ≤ length bytes → 128 ≤ get_or bytes 0 0 → bounded_varint (k - 1) (drop 1 bytes) ≡ Ok (high, count)
    → bounded_varint k bytes ≡ Ok ((get_or bytes 0 0 - 128) + 128 * high, count + 1)
bounded_goes k bytes high count lt some top e = bounded_more k bytes (Ok (high, count)) lt some top e

-- a power of 128 with one more step
pub pow_pred : (k : ℕ) → 0 < k → 128 ^ k ≡ 128 * 128 ^ (k - 1)
pow_pred zero lt = absurd (omega arith)
pow_pred (suc k) lt =
    let same : suc k - 1 ≡ k = omega arith in
    let step : 128 ^ suc k ≡ 128 ^ k * 128 = pow-suc 128 k in
    rw same (omega (arith, step))

pub pow_positive : (k : ℕ) → 0 < 128 ^ k
pow_positive zero = omega arith
pow_positive (suc k) =
    let step : 128 ^ suc k ≡ 128 ^ k * 128 = pow-suc 128 k in
    omega (arith, step, pow_positive k)

pub pow_small : (k : ℕ) → k ≤ 5 → 128 ^ k ≤ 34359738368
pow_small k le = pow-le-pow_right {n = 128} (lit< tt) {i = k} {j = 5} le

-- ---- how many bytes a varint has

len_short : (k n : ℕ) → n < 128 → length (varint_within (suc k) n) ≡ 1
len_short k n low = rw (lt-ltb n 128 low) refl

len_long : (k n m : ℕ) → 128 ≤ n → length (varint_within k (n / 128)) ≡ m → length (varint_within (suc k) n) ≡ suc m
len_long k n m high e = rw (le-ltb n 128 high) (ap suc e)

-- the last byte that there is room for
len_one : (n : ℕ) → length (varint_within 1 n) ≡ 1
len_one n = cond_both (ltb n 128) (n ∷ []) ((n % 128 + 128) ∷ []) (λ bytes. length bytes ≡ 1) (λ _. refl) (λ _. refl)

pub varint_1 : (n : ℕ) → n < 128 → length (varint n) ≡ 1
unfolding varint
varint_1 n low = len_short 4 n low

pub varint_2 : (n : ℕ) → 128 ≤ n → n < 16384 → length (varint n) ≡ 2
unfolding varint
varint_2 n high low = len_long 4 n 1 high (len_short 3 (n / 128) (omega arith))

pub varint_3 : (n : ℕ) → 16384 ≤ n → n < 2097152 → length (varint n) ≡ 3
unfolding varint
varint_3 n high low =
    len_long 4 n 2 (omega arith) (len_long 3 (n / 128) 1 (omega arith) (len_short 2 (n / 128 / 128) (omega arith)))

pub varint_4 : (n : ℕ) → 2097152 ≤ n → n < 268435456 → length (varint n) ≡ 4
unfolding varint
varint_4 n high low =
    len_long 4 n 3 (omega arith) (len_long 3 (n / 128) 2 (omega arith) (len_long 2 (n / 128 / 128) 1 (omega arith) (len_short 1 (n / 128 / 128 / 128) (omega arith))))

pub varint_5 : (n : ℕ) → 268435456 ≤ n → length (varint n) ≡ 5
unfolding varint
varint_5 n high =
    len_long 4 n 4 (omega arith) (len_long 3 (n / 128) 3 (omega arith) (len_long 2 (n / 128 / 128) 2 (omega arith) (len_long 1 (n / 128 / 128 / 128) 1 (omega arith) (len_one (n / 128 / 128 / 128 / 128)))))

pub len_within : (k n : ℕ) → length (varint_within k n) ≤ k
len_within zero n = omega arith
len_within (suc k) n =
    cond_both (ltb n 128) (n ∷ []) ((n % 128 + 128) ∷ varint_within k (n / 128)) (λ bytes. length bytes ≤ suc k) (λ _. omega arith) (λ _. omega (arith, len_within k (n / 128)))

-- ---- bounded reading agrees with reading

-- what the bounded reading gives, beside the whole one
abbrev Agrees : ℕ → Result (ℕ × ℕ) Why → Option (ℕ × ℕ) → Type 0
Agrees k (Ok v) whole = whole ≡ Some v
Agrees k (Err Short) whole = whole ≡ None
Agrees k (Err Range) whole = (v : ℕ × ℕ) × (whole ≡ Some v) × (k < v.1)
Agrees k (Err _) whole = ⊥

Agrees-too_long : (bytes : List ℕ) → Agrees 0 (Err (too_long bytes)) (varint_at bytes)
Agrees-too_long [] = refl
Agrees-too_long (b ∷ bytes) =
    elim (cases_lt b 128) [
      | inl low ↦ rw (lt-ltb b 128 low) ((b, 1), refl, omega arith)
      | inr high ↦ rw (le-ltb b 128 high) (behind b (list_any (λ x. ltb x 128) bytes) (varint_at bytes) (Agrees-too_long bytes))
    ]
  where
    behind : (b : ℕ) (ends : Bool) (whole : Option (ℕ × ℕ)) → Agrees 0 (Err (cond ends Range Short)) whole → Agrees 0 (Err (cond ends Range Short)) (behind_byte b whole)
    behind b true whole h = rw h.1 (((b - 128) + 128 * h.0.0, h.0.1 + 1), refl, omega arith)
    behind b false whole h = rw h refl

bounded-agrees : (k : ℕ) (bytes : List ℕ) → Agrees k (bounded_varint k bytes) (varint_at bytes)
unfolding bounded_varint
bounded-agrees zero bytes = Agrees-too_long bytes
bounded-agrees (suc k) [] = refl
bounded-agrees (suc k) (b ∷ bytes) =
    elim (cases_lt b 128) [
      | inl low ↦ rw (lt-ltb b 128 low) refl
      | inr high ↦ rw (le-ltb b 128 high) (behind (bounded_varint k bytes) (varint_at bytes) (bounded-agrees k bytes))
    ]
  where
    behind : (read : Result (ℕ × ℕ) Why) (whole : Option (ℕ × ℕ)) → Agrees k read whole → Agrees (suc k) (read >>= with_low b) (behind_byte b whole)
    behind (Ok v) whole h = rw h refl
    behind (Err Short) whole h = rw h refl
    behind (Err Range) whole h = rw h.1 (((b - 128) + 128 * h.0.0, h.0.1 + 1), refl, omega arith)
    behind (Err _) whole h = absurd h

agreed : (bytes : List ℕ) (read : Result (ℕ × ℕ) Why) → bounded_varint 5 bytes ≡ read → Agrees 5 read (varint_at bytes)
agreed bytes read e = subst (λ (r : Result (ℕ × ℕ) Why). Agrees 5 r (varint_at bytes)) e (bounded-agrees 5 bytes)

pub length_bad : (bytes : List ℕ) (why : Why) → bounded_varint 5 bytes ≡ Err why → length_in (varint_at bytes) ≡ Err why
length_bad bytes why e = of_why why (varint_at bytes) (agreed bytes (Err why) e)
  where
    of_why : (why : Why) (whole : Option (ℕ × ℕ)) → Agrees 5 (Err why) whole → length_in whole ≡ Err why
    of_why Short whole h = rw h refl
    of_why Range whole h =
        let few : length (varint h.0.0) ≤ 5 = unfold varint in len_within 5 h.0.0 in
        let unlike : eqb (length (varint h.0.0)) h.0.1 ≡ false = ne_eqb _ _ (λ same. omega arith) in
        rw (h.1, unlike, or-true) refl
    of_why _ whole h = absurd h

pub length_high : (bytes : List ℕ) (n count : ℕ) → bounded_varint 5 bytes ≡ Ok (n, count) → 2 ^ 32 ≤ n → length_in (varint_at bytes) ≡ Err Range
length_high bytes n count e high =
    let whole = agreed bytes (Ok (n, count)) e in
    rw (whole, le-leb (2 ^ 32) n high) refl

pub length_long : (bytes : List ℕ) (n count : ℕ) → bounded_varint 5 bytes ≡ Ok (n, count) → (length (varint n) ≡ count → ⊥) → length_in (varint_at bytes) ≡ Err Range
length_long bytes n count e unlike =
    let whole = agreed bytes (Ok (n, count)) e in
    rw (whole, ne_eqb _ _ unlike, or-true) refl

pub length_good : (bytes : List ℕ) (n count : ℕ) → bounded_varint 5 bytes ≡ Ok (n, count) → n < 2 ^ 32 → length (varint n) ≡ count → length_in (varint_at bytes) ≡ Ok (n, count)
length_good bytes n count e low same =
    let whole = agreed bytes (Ok (n, count)) e in
    rw (whole, lt-leb (2 ^ 32) n low, eq-eqb _ _ same) refl

-- ---- writing

pub within_none : (k n : ℕ) → k ≡ 0 → varint_within k n ≡ []
within_none zero n e = refl
within_none (suc k) n e = absurd (omega arith)

pub within_last : (k n : ℕ) → 0 < k → n < 128 → varint_within k n ≡ n ∷ []
within_last zero n lt low = absurd (omega arith)
within_last (suc k) n lt low = rw (lt-ltb n 128 low) refl

pub within_more : (k n : ℕ) → 0 < k → 128 ≤ n → varint_within k n ≡ (n % 128 + 128) ∷ varint_within (k - 1) (n / 128)
within_more zero n lt high = absurd (omega arith)
within_more (suc k) n lt high =
    let same : suc k - 1 ≡ k = omega arith in
    rw (le-ltb n 128 high, same) refl

pub within_appended : (r : Result (Unit {0}) AllocError) (old mid new : List ℕ) (k n : ℕ) → 0 < k → 128 ≤ n → mid ≡ old ++ (n % 128 + 128) ∷ []
    → OnOk r (new ≡ mid ++ varint_within (k - 1) (n / 128)) → OnOk r (new ≡ old ++ varint_within k n)
within_appended (Ok x) old mid new k n lt high first e =
    let more = within_more k n lt high in
    e ∙ rw (first, more) (append_assoc old ((n % 128 + 128) ∷ []) (varint_within (k - 1) (n / 128)))
within_appended (Err x) old mid new k n lt high first e = tt

-- Slices that are read are the bytes that stand there, and slices that were written are read again.
use Rattle.std.proofs.Common.{◌≡◌, ℕ, zero, suc, ◌+◌, ◌*◌, ◌-◌, ◌^◌, ◌/◌, ◌%◌, ◌<◌, ◌≤◌, false, not, ◌||◌, cond, eqb, ltb, leb, List, [], ◌∷◌, ◌++◌, length, take, drop, Option, Some, None, Ok, Err, refl, sym, ap, subst, ◌∙◌, append_assoc, arith, inl, inr, add-one}
use Rattle.std.proofs.Math.Nat.{pow-suc}
use Rattle.std.proofs.lemmas.Bool.{cases_lt, ltb-false, lt-ltb, le-ltb, lt-leb, leb-false, eq-eqb, eqb-true, or_parts, not-false}
use Rattle.std.proofs.lemmas.List.{take_at, drop_at, take-append-drop, length-append, length-take, length-drop, drop-drop}
use Rattle.record_model.specs.Numbers.{varint, varint_within}
use Rattle.record_model.specs.Encoding.{slice}
use Rattle.record_model.specs.FieldDecoding.{Cursor, Reads, advance, varint_at, behind_byte, length_in, slice_at}
use Rattle.record_model.specs.declared.fault.Why.TheVariants.{Short, Range}
use Rattle.record_codec.proofs.DraftedReading.{bind_ok}
use Rattle.record_codec.proofs.Numbers.{IsBytes, IsBytes-drop, IsBytes-take, Took, guard_ok}

abbrev some_of : ℕ → ℕ → Option (ℕ × ℕ)
some_of n count = Some (n, count)

abbrev some : ℕ × ℕ → Option (ℕ × ℕ)
some v = Some v

some_is : (v w : ℕ × ℕ) → some v ≡ some w → v ≡ w
some_is v w e = cc

behind_count : (b : ℕ) (o : Option (ℕ × ℕ)) (v : ℕ × ℕ) → behind_byte b o ≡ Some v → 0 < v.1
behind_count b None v e = absurd cc
behind_count b (Some w) v e = subst (λ (x : ℕ × ℕ). 0 < x.1) (some_is ((b - 128) + 128 * w.0, w.1 + 1) v e) (omega arith)

-- what stands before a byte with its top bit set
behind_is : (b : ℕ) (o : Option (ℕ × ℕ)) (v : ℕ × ℕ) → behind_byte b o ≡ Some v → (w : ℕ × ℕ) × (o ≡ Some w) × (v.0 ≡ (b - 128) + 128 * w.0) × (v.1 ≡ w.1 + 1)
behind_is b None v e = absurd cc
behind_is b (Some w) v e =
    let same = some_is ((b - 128) + 128 * w.0, w.1 + 1) v e in
    (w, refl, sym (ap (λ (x : ℕ × ℕ). x.0) same), sym (ap (λ (x : ℕ × ℕ). x.1) same))

-- ---- a varint that was written is read again

varint_again-within : (k n : ℕ) (rest : List ℕ) → n < 128 ^ suc k → varint_at (varint_within (suc k) n ++ rest) ≡ Some (n, length (varint_within (suc k) n))
varint_again-within zero n rest lt =
    let low : n < 128 = omega arith in
    rw (lt-ltb n 128 low, lt-ltb n 128 low) refl
varint_again-within (suc k) n rest lt =
    elim (cases_lt n 128) [
      | inl low ↦ rw (lt-ltb n 128 low, lt-ltb n 128 low) refl
      | inr high ↦
          let step : 128 ^ suc (suc k) ≡ 128 ^ suc k * 128 = pow-suc 128 (suc k) in
          let again = varint_again-within k (n / 128) rest (omega (arith, step)) in
          let top : ltb (n % 128 + 128) 128 ≡ false = le-ltb _ _ (omega arith) in
          let value : (n % 128 + 128 - 128) + 128 * (n / 128) ≡ n = omega arith in
          let count : length (varint_within (suc k) (n / 128)) + 1 ≡ suc (length (varint_within (suc k) (n / 128))) = omega arith in
          let first : varint_within (suc (suc k)) n ≡ (n % 128 + 128) ∷ varint_within (suc k) (n / 128) = rw (le-ltb n 128 high) refl in
          let read : varint_at ((n % 128 + 128) ∷ (varint_within (suc k) (n / 128) ++ rest)) ≡ Some (n, suc (length (varint_within (suc k) (n / 128)))) = rw (top, again, value, count) refl in
          ap (λ (bytes : List ℕ). varint_at (bytes ++ rest)) first ∙ read ∙ ap (λ (bytes : List ℕ). some_of n (length bytes)) (sym first)
    ]

varint_again : (n : ℕ) (rest : List ℕ) → n < 2 ^ 32 → varint_at (varint n ++ rest) ≡ Some (n, length (varint n))
unfolding varint
varint_again n rest lt = varint_again-within 4 n rest (omega arith)

-- ---- a varint in its shortest form is the one of its value

varint_count : (bytes : List ℕ) (v : ℕ × ℕ) → varint_at bytes ≡ Some v → 0 < v.1
varint_count [] v e = absurd cc
varint_count (b ∷ bytes) v e =
    elim (cases_lt b 128) [
      | inl low ↦ let one : some_of b 1 ≡ Some v = sym (rw (lt-ltb b 128 low) refl) ∙ e in subst (λ (w : ℕ × ℕ). 0 < w.1) (some_is (b, 1) v one) (omega arith)
      | inr high ↦ let more : behind_byte b (varint_at bytes) ≡ Some v = sym (rw (le-ltb b 128 high) refl) ∙ e in behind_count b (varint_at bytes) v more
    ]

within_low : (k v : ℕ) → v < 128 → varint_within (suc k) v ≡ v ∷ []
within_low k v low = rw (lt-ltb v 128 low) refl

within_high : (k v : ℕ) → 128 ≤ v → varint_within (suc k) v ≡ (v % 128 + 128) ∷ varint_within k (v / 128)
within_high k v high = rw (le-ltb v 128 high) refl

-- the last byte
takes_last : (k b : ℕ) (bytes : List ℕ) (v : ℕ × ℕ) → b < 128 → some_of b 1 ≡ Some v → length (varint_within k v.0) ≡ v.1 → b ∷ bytes ≡ varint_within k v.0 ++ drop v.1 (b ∷ bytes)
takes_last k b bytes v low e len =
    subst (λ (w : ℕ × ℕ). length (varint_within k w.0) ≡ w.1 → b ∷ bytes ≡ varint_within k w.0 ++ drop w.1 (b ∷ bytes)) (some_is (b, 1) v e) (of_fuel k b bytes low) len
  where
    of_fuel : (k b : ℕ) (bytes : List ℕ) → b < 128 → length (varint_within k b) ≡ 1 → b ∷ bytes ≡ varint_within k b ++ drop 1 (b ∷ bytes)
    of_fuel zero b bytes low len = absurd cc
    of_fuel (suc k) b bytes low len = rw (within_low k b low) refl

-- a byte with its top bit set
takes_more : (k b : ℕ) (bytes : List ℕ) (v w : ℕ × ℕ) → 128 ≤ b → b < 256 → 0 < w.1 → v.0 ≡ (b - 128) + 128 * w.0 → v.1 ≡ w.1 + 1 → length (varint_within k v.0) ≡ v.1
    → ((j : ℕ) → length (varint_within j w.0) ≡ w.1 → bytes ≡ varint_within j w.0 ++ drop w.1 bytes)
    → b ∷ bytes ≡ varint_within k v.0 ++ drop v.1 (b ∷ bytes)
takes_more zero b bytes v w top byte some value count len later =
    let none : 0 ≡ v.1 = len in
    absurd (omega arith)
takes_more (suc k) b bytes v w top byte some value count len later =
    elim (cases_lt v.0 128) [
      | inl low ↦
          let one : 1 ≡ v.1 = sym (ap length (within_low k v.0 low)) ∙ len in
          absurd (omega arith)
      | inr high ↦
          let whole = within_high k v.0 high in
          let up : v.0 / 128 ≡ w.0 = omega arith in
          let down : v.0 % 128 + 128 ≡ b = omega arith in
          let rest_len : suc (length (varint_within k (v.0 / 128))) ≡ v.1 = sym (ap length whole) ∙ len in
          let same_len : length (varint_within k w.0) ≡ w.1 = let e : length (varint_within k (v.0 / 128)) ≡ w.1 = omega (arith, rest_len) in rw up at e in
          let rest : bytes ≡ varint_within k w.0 ++ drop w.1 bytes = later k same_len in
          let behind : drop v.1 (b ∷ bytes) ≡ drop w.1 bytes = rw (count, add-one) refl in
          let front : varint_within (suc k) v.0 ≡ b ∷ varint_within k w.0 = whole ∙ rw (down, up) refl in
          ap (λ (x : List ℕ). b ∷ x) rest ∙ rw (front, behind) refl
    ]

varint_takes-within : (k : ℕ) (bytes : List ℕ) (v : ℕ × ℕ) → IsBytes bytes → varint_at bytes ≡ Some v → length (varint_within k v.0) ≡ v.1 → bytes ≡ varint_within k v.0 ++ drop v.1 bytes
varint_takes-within k [] v fits e len = absurd cc
varint_takes-within k (b ∷ bytes) v fits e len =
    elim (cases_lt b 128) [
      | inl low ↦ takes_last k b bytes v low (sym (rw (lt-ltb b 128 low) refl) ∙ e) len
      | inr high ↦
          let more : behind_byte b (varint_at bytes) ≡ Some v = sym (rw (le-ltb b 128 high) refl) ∙ e in
          let w = behind_is b (varint_at bytes) v more in
          takes_more k b bytes v w.0 high (fits 0) (varint_count bytes w.0 w.1) w.2 w.3 len (λ j same. varint_takes-within j bytes w.0 (λ i. fits (suc i)) w.1 same)
    ]

varint_takes : (bytes : List ℕ) (v : ℕ × ℕ) → IsBytes bytes → varint_at bytes ≡ Some v → length (varint v.0) ≡ v.1 → bytes ≡ varint v.0 ++ drop v.1 bytes
unfolding varint
varint_takes bytes v fits e len = varint_takes-within 5 bytes v fits e len

-- ---- slices

-- a length that was read
record IsLength (o : Option (ℕ × ℕ)) (v : ℕ × ℕ) : Type 0 where
  is : o ≡ Some v
  below : v.0 < 2 ^ 32
  shortest : length (varint v.0) ≡ v.1

length_is : (o : Option (ℕ × ℕ)) (v : ℕ × ℕ) → length_in o ≡ Ok v → IsLength o v
length_is None v e = absurd cc
length_is (Some w) v e =
    let g = guard_ok (leb (2 ^ 32) w.0 || not (eqb (length (varint w.0)) w.1)) Range w v e in
    let tests = or_parts (leb (2 ^ 32) w.0) (not (eqb (length (varint w.0)) w.1)) g.0 in
    subst (IsLength (Some w)) g.1 (record { is = refl; below = leb-false _ _ tests.0; shortest = eqb-true _ _ (not-false _ tests.1) })

-- the rest of a slice behind its length
abbrev slice_from : Cursor → ℕ × ℕ → Reads (List ℕ)
slice_from c v = cond (ltb (length c.rest) (v.1 + v.0)) (Err Short) (Ok (take v.0 (drop v.1 c.rest), advance (v.1 + v.0) c))

-- a slice that was read
pub record IsSlice (c : Cursor) (x : List ℕ × Cursor) : Type 0 where
  pub took : Took c.rest (slice x.0) x.1.rest
  pub below : length x.0 < 2 ^ 32
  pub content_fits : IsBytes x.0

pub slice_takes : (c : Cursor) (x : List ℕ × Cursor) → IsBytes c.rest → slice_at c ≡ Ok x → IsSlice c x
unfolding slice_at
slice_takes c x fits e =
    let a = bind_ok (length_in (varint_at c.rest)) (slice_from c) x e in
    let v = a.0 in
    let len = length_is (varint_at c.rest) v a.1 in
    let g = guard_ok (ltb (length c.rest) (v.1 + v.0)) Short (take v.0 (drop v.1 c.rest), advance (v.1 + v.0) c) x a.2 in
    let long : v.1 + v.0 ≤ length c.rest = ltb-false _ _ g.0 in
    let content = take v.0 (drop v.1 c.rest) in
    let content_len : length (take v.0 (drop v.1 c.rest)) ≡ v.0 = omega (arith, length-take v.0 (drop v.1 c.rest), length-drop v.1 c.rest) in
    let front : c.rest ≡ varint v.0 ++ drop v.1 c.rest = varint_takes c.rest v fits len.is len.shortest in
    let back : drop v.1 c.rest ≡ take v.0 (drop v.1 c.rest) ++ drop (v.1 + v.0) c.rest = sym (take-append-drop v.0 (drop v.1 c.rest)) ∙ ap (λ (r : List ℕ). take v.0 (drop v.1 c.rest) ++ r) (drop-drop v.0 v.1 c.rest) in
    let whole : c.rest ≡ (varint v.0 ++ take v.0 (drop v.1 c.rest)) ++ drop (v.1 + v.0) c.rest = front ∙ ap (λ (r : List ℕ). varint v.0 ++ r) back ∙ sym (append_assoc (varint v.0) (take v.0 (drop v.1 c.rest)) (drop (v.1 + v.0) c.rest)) in
    let spelled : c.rest ≡ slice (take v.0 (drop v.1 c.rest)) ++ drop (v.1 + v.0) c.rest = whole ∙ ap (λ (n : ℕ). (varint n ++ take v.0 (drop v.1 c.rest)) ++ drop (v.1 + v.0) c.rest) (sym content_len) in
    subst (IsSlice c) g.1 (record {
      took = record { parts = spelled; rest_fits = IsBytes-drop (v.1 + v.0) c.rest fits };
      below = omega (arith, content_len, len.below);
      content_fits = IsBytes-take v.0 (drop v.1 c.rest) (IsBytes-drop v.1 c.rest fits);
    })

pub slice_again : (at : ℕ) (bytes rest : List ℕ) → length bytes < 2 ^ 32
    → slice_at (record { at = at; rest = slice bytes ++ rest }) ≡ Ok (bytes, record { at = at + length (slice bytes); rest = rest })
unfolding slice_at
slice_again at bytes rest lt =
    let n = length bytes in
    let count = length (varint (length bytes)) in
    let regrouped : slice bytes ++ rest ≡ varint (length bytes) ++ (bytes ++ rest) = append_assoc (varint (length bytes)) bytes rest in
    let read : varint_at (slice bytes ++ rest) ≡ Some (length bytes, length (varint (length bytes))) = ap varint_at regrouped ∙ varint_again (length bytes) (bytes ++ rest) lt in
    let whole = length-append (varint (length bytes)) bytes in
    let long : ltb (length (slice bytes ++ rest)) (length (varint (length bytes)) + length bytes) ≡ false = le-ltb _ _ (omega (arith, length-append (slice bytes) rest, whole)) in
    let content : take (length bytes) (drop (length (varint (length bytes))) (slice bytes ++ rest)) ≡ bytes = ap (λ (r : List ℕ). take (length bytes) (drop (length (varint (length bytes))) r)) regrouped ∙ rw (drop_at (varint (length bytes)) (bytes ++ rest) (length (varint (length bytes))) refl) (take_at bytes rest (length bytes) refl) in
    let after : drop (length (varint (length bytes)) + length bytes) (slice bytes ++ rest) ≡ rest = drop_at (slice bytes) rest _ whole in
    rw (read, lt-leb (2 ^ 32) (length bytes) lt, eq-eqb (length (varint (length bytes))) (length (varint (length bytes))) refl, long, content, after, sym whole) refl

-- Bytes go in: each is looked up by itself.
use Rattle.std.proofs.Common.{◌≡◌, ℕ, zero, suc, ◌/◌, ◌%◌, ◌^◌, ◌<◌, List, [], ◌∷◌, length, get_or, replicate, refl, sym, ap, ◌∙◌, arith}
use Rattle.std.specs.Int.Bits.{bit_xor, xor_assoc, xor_zero_r, xor_shr, xor_mod}
use Rattle.crc32c_core.specs.Register.{register_after}
use Rattle.crc32c_core.proofs.Shifts.{bit_shift, shifted, shifted-xor, shifted-split, shifted-zero, shifts, shifts-xor, shifts-zero}
use Rattle.std.proofs.lemmas.Nat.{shr-shr}

pub register_after-cons : (r b : ℕ) (bytes : List ℕ) → register_after r (b ∷ bytes) ≡ register_after (shifted (bit_xor r b)) bytes
unfolding register_after shifted bit_shift
register_after-cons r b bytes = refl

pub register_after-nil : (r : ℕ) → register_after r [] ≡ r
unfolding register_after
register_after-nil r = refl

register_after-zeros : (n r : ℕ) → register_after r (replicate n 0) ≡ shifts n r
unfolding shifts
register_after-zeros zero r = register_after-nil r
register_after-zeros (suc n) r =
    register_after-cons r 0 (replicate n 0) ∙ ap (λ x. register_after (shifted x) (replicate n 0)) (xor_zero_r r)
    ∙ register_after-zeros n (shifted r)

-- what a byte leaves in an empty register, zero bytes behind it
pub register_after-byte_zeros : (n b : ℕ) → register_after 0 (b ∷ replicate n 0) ≡ shifts (suc n) b
unfolding shifts
register_after-byte_zeros n b = register_after-cons 0 b (replicate n 0) ∙ register_after-zeros n (shifted b)

-- the register in two parts, t of what went in and r of what was there
shifted_parts : (t r b : ℕ) → b < 256 → shifted (bit_xor (bit_xor t r) b) ≡ bit_xor (bit_xor (shifted t) (shifted (bit_xor (r % 256) b))) (r / 256)
shifted_parts t r b small =
    let low : bit_xor r b % 256 ≡ bit_xor (r % 256) b = xor_mod r b 8 ∙ ap (bit_xor (r % 256)) (let e : b % 256 ≡ b = omega arith in e) in
    let high : bit_xor r b / 256 ≡ r / 256 =
    xor_shr r b 8 ∙ ap (bit_xor (r / 256)) (let e : b / 256 ≡ 0 = omega arith in e) ∙ xor_zero_r (r / 256) in
    ap shifted (xor_assoc t r b) ∙ shifted-xor t (bit_xor r b) ∙ ap (bit_xor (shifted t)) (shifted-split (bit_xor r b))
    ∙ ap (λ x. bit_xor (shifted t) (bit_xor (shifted x) (bit_xor r b / 256))) low
    ∙ ap (λ x. bit_xor (shifted t) (bit_xor (shifted (bit_xor (r % 256) b)) x)) high
    ∙ sym (xor_assoc (shifted t) (shifted (bit_xor (r % 256) b)) (r / 256))

-- the bytes that are looked up: those of the register with those that go in
mixed : ℕ → List ℕ → List ℕ
mixed r [] = []
mixed r (b ∷ bytes) = bit_xor (r % 256) b ∷ mixed (r / 256) bytes

-- what is left of the register
left_of : ℕ → List ℕ → ℕ
left_of r [] = r
left_of r (b ∷ bytes) = left_of (r / 256) bytes

-- each byte shifts those before it
gathered : ℕ → List ℕ → ℕ
gathered t [] = t
gathered t (x ∷ xs) = gathered (bit_xor (shifted t) (shifted x)) xs

-- each byte is looked up with as many zero bytes as there are bytes behind it
looked_up : ℕ → List ℕ → ℕ
looked_up sum [] = sum
looked_up sum (x ∷ xs) = looked_up (bit_xor sum (shifts (suc (length xs)) x)) xs

gathered-looked_up : (t : ℕ) (xs : List ℕ) → gathered t xs ≡ looked_up (shifts (length xs) t) xs
unfolding gathered looked_up shifts
gathered-looked_up t [] = refl
gathered-looked_up t (x ∷ xs) =
    gathered-looked_up (bit_xor (shifted t) (shifted x)) xs
    ∙ ap (λ sum. looked_up sum xs) (shifts-xor (length xs) (shifted t) (shifted x))

register_after-parts : (t r : ℕ) (bytes : List ℕ) → ((i : ℕ) → get_or bytes i 0 < 256)
    → register_after (bit_xor t r) bytes ≡ bit_xor (gathered t (mixed r bytes)) (left_of r bytes)
unfolding gathered mixed left_of
register_after-parts t r [] small = register_after-nil (bit_xor t r)
register_after-parts t r (b ∷ bytes) small =
    register_after-cons (bit_xor t r) b bytes ∙ ap (λ x. register_after x bytes) (shifted_parts t r b (small 0))
    ∙ register_after-parts (bit_xor (shifted t) (shifted (bit_xor (r % 256) b))) (r / 256) bytes (λ i. small (suc i))

-- a byte goes in
pub register_after-byte : (r b : ℕ) → b < 256 → register_after r (b ∷ []) ≡ bit_xor (shifts 1 (bit_xor (r % 256) b)) (r / 256)
unfolding shifts
register_after-byte r b small = register_after-cons r b [] ∙ register_after-nil _ ∙ shifted_parts 0 r b small
    ∙ ap (λ none. bit_xor (bit_xor none (shifted (bit_xor (r % 256) b))) (r / 256)) shifted-zero

mixed-word : (r a b c d e f g h : ℕ) → r < 2 ^ 32 → mixed r (a ∷ b ∷ c ∷ d ∷ e ∷ f ∷ g ∷ h ∷ [])
    ≡ bit_xor (r % 256) a ∷ bit_xor (r / 256 % 256) b ∷ bit_xor (r / 65536 % 256) c ∷ bit_xor (r / 16777216 % 256) d ∷ e ∷ f ∷ g ∷ h ∷ []
unfolding mixed
mixed-word r a b c d e f g h fits =
    let third : r / 256 / 256 ≡ r / 65536 = shr-shr r 8 8 in
    let fourth : r / 256 / 256 / 256 ≡ r / 16777216 = ap (λ x. x / 256) third ∙ shr-shr r 16 8 in
    let none : r / 256 / 256 / 256 / 256 ≡ 0 = omega arith in
    ap (λ rest. bit_xor (r % 256) a ∷ bit_xor (r / 256 % 256) b ∷ bit_xor (r / 256 / 256 % 256) c ∷ bit_xor (r / 256 / 256 / 256 % 256) d ∷ mixed rest (e ∷ f ∷ g ∷ h ∷ [])) none
    ∙ ap (λ x. bit_xor (r % 256) a ∷ bit_xor (r / 256 % 256) b ∷ bit_xor (x % 256) c ∷ bit_xor (r / 256 / 256 / 256 % 256) d ∷ e ∷ f ∷ g ∷ h ∷ []) third
    ∙ ap (λ x. bit_xor (r % 256) a ∷ bit_xor (r / 256 % 256) b ∷ bit_xor (r / 65536 % 256) c ∷ bit_xor (x % 256) d ∷ e ∷ f ∷ g ∷ h ∷ []) fourth

left_of-word : (r a b c d e f g h : ℕ) → r < 2 ^ 32 → left_of r (a ∷ b ∷ c ∷ d ∷ e ∷ f ∷ g ∷ h ∷ []) ≡ 0
unfolding left_of
left_of-word r a b c d e f g h fits =
    let none : r / 256 / 256 / 256 / 256 ≡ 0 = omega arith in
    ap (λ rest. rest / 256 / 256 / 256 / 256) none

-- what the look-ups of eight bytes come to
sum_of_eight : (a b c d e f g h : ℕ) → ℕ
sum_of_eight a b c d e f g h =
    bit_xor (bit_xor (bit_xor (bit_xor (bit_xor (bit_xor (bit_xor (shifts 8 a) (shifts 7 b)) (shifts 6 c)) (shifts 5 d)) (shifts 4 e)) (shifts 3 f)) (shifts 2 g)) (shifts 1 h)

looked_up-eight : (a b c d e f g h : ℕ) → looked_up (shifts 8 0) (a ∷ b ∷ c ∷ d ∷ e ∷ f ∷ g ∷ h ∷ []) ≡ sum_of_eight a b c d e f g h
unfolding looked_up sum_of_eight
looked_up-eight a b c d e f g h = ap (λ sum. looked_up sum (a ∷ b ∷ c ∷ d ∷ e ∷ f ∷ g ∷ h ∷ [])) (shifts-zero 8)

-- eight bytes go in
pub register_after-eight : (r a b c d e f g h : ℕ) → r < 2 ^ 32 → ((i : ℕ) → get_or (a ∷ b ∷ c ∷ d ∷ e ∷ f ∷ g ∷ h ∷ []) i 0 < 256)
    → register_after r (a ∷ b ∷ c ∷ d ∷ e ∷ f ∷ g ∷ h ∷ [])
    ≡ bit_xor (bit_xor (bit_xor (bit_xor (bit_xor (bit_xor (bit_xor
    (shifts 8 (bit_xor (r % 256) a)) (shifts 7 (bit_xor (r / 256 % 256) b))) (shifts 6 (bit_xor (r / 65536 % 256) c)))
    (shifts 5 (bit_xor (r / 16777216 % 256) d))) (shifts 4 e)) (shifts 3 f)) (shifts 2 g)) (shifts 1 h)
unfolding sum_of_eight
register_after-eight r a b c d e f g h fits small =
    register_after-parts 0 r (a ∷ b ∷ c ∷ d ∷ e ∷ f ∷ g ∷ h ∷ []) small
    ∙ ap (bit_xor (gathered 0 (mixed r (a ∷ b ∷ c ∷ d ∷ e ∷ f ∷ g ∷ h ∷ [])))) (left_of-word r a b c d e f g h fits)
    ∙ xor_zero_r (gathered 0 (mixed r (a ∷ b ∷ c ∷ d ∷ e ∷ f ∷ g ∷ h ∷ [])))
    ∙ ap (gathered 0) (mixed-word r a b c d e f g h fits)
    ∙ gathered-looked_up 0 _
    ∙ looked_up-eight (bit_xor (r % 256) a) (bit_xor (r / 256 % 256) b) (bit_xor (r / 65536 % 256) c) (bit_xor (r / 16777216 % 256) d) e f g h

-- eight bytes, as a list
pub register_after-word : (r : ℕ) (bytes : List ℕ) → r < 2 ^ 32 → length bytes ≡ 8 → ((i : ℕ) → get_or bytes i 0 < 256)
    → register_after r bytes
    ≡ bit_xor (bit_xor (bit_xor (bit_xor (bit_xor (bit_xor (bit_xor
    (shifts 8 (bit_xor (r % 256) (get_or bytes 0 0))) (shifts 7 (bit_xor (r / 256 % 256) (get_or bytes 1 0))))
    (shifts 6 (bit_xor (r / 65536 % 256) (get_or bytes 2 0)))) (shifts 5 (bit_xor (r / 16777216 % 256) (get_or bytes 3 0))))
    (shifts 4 (get_or bytes 4 0))) (shifts 3 (get_or bytes 5 0))) (shifts 2 (get_or bytes 6 0))) (shifts 1 (get_or bytes 7 0))
register_after-word r [] fits long small = absurd (omega arith)
register_after-word r (a ∷ []) fits long small = absurd (omega arith)
register_after-word r (a ∷ b ∷ []) fits long small = absurd (omega arith)
register_after-word r (a ∷ b ∷ c ∷ []) fits long small = absurd (omega arith)
register_after-word r (a ∷ b ∷ c ∷ d ∷ []) fits long small = absurd (omega arith)
register_after-word r (a ∷ b ∷ c ∷ d ∷ e ∷ []) fits long small = absurd (omega arith)
register_after-word r (a ∷ b ∷ c ∷ d ∷ e ∷ f ∷ []) fits long small = absurd (omega arith)
register_after-word r (a ∷ b ∷ c ∷ d ∷ e ∷ f ∷ g ∷ []) fits long small = absurd (omega arith)
register_after-word r (a ∷ b ∷ c ∷ d ∷ e ∷ f ∷ g ∷ h ∷ []) fits long small = register_after-eight r a b c d e f g h fits small
register_after-word r (a ∷ b ∷ c ∷ d ∷ e ∷ f ∷ g ∷ h ∷ i ∷ rest) fits long small = absurd (omega arith)

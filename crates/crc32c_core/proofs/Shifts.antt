-- A byte of shifts of the register: it is linear, and a whole byte above the lowest only moves down.
use Rattle.std.proofs.Common.{◌≡◌, ℕ, zero, suc, ◌*◌, ◌/◌, ◌%◌, ◌<◌, ◌==◌, if◌then◌else◌, refl, sym, ap, ◌∙◌, arith}
use Rattle.std.specs.Int.Bits.{bit_xor, xor_assoc, xor_self, xor_zero_r, xor_comm, xor_shr, xor_mod, xor_shifted}
use Rattle.crc32c_core.specs.Checksum.{crc_bit}

-- the low bit of a register goes out, the others move down
one_shift : ℕ → ℕ → ℕ
one_shift half low = if low == 1 then bit_xor half 0x82F63B78 else half

-- the middle two of four change places
xor_swap : (a b c d : ℕ) → bit_xor (bit_xor a b) (bit_xor c d) ≡ bit_xor (bit_xor a c) (bit_xor b d)
xor_swap a b c d =
    xor_assoc a b (bit_xor c d) ∙ ap (bit_xor a) (sym (xor_assoc b c d) ∙ ap (λ x. bit_xor x d) (xor_comm b c) ∙ xor_assoc c b d)
    ∙ sym (xor_assoc a c (bit_xor b d))

one_shift-xor : (x y m n : ℕ) → m < 2 → n < 2 → one_shift (bit_xor x y) (bit_xor m n) ≡ bit_xor (one_shift x m) (one_shift y n)
unfolding one_shift
one_shift-xor x y zero zero h k = refl
one_shift-xor x y zero (suc zero) h k = xor_assoc x y 0x82F63B78
one_shift-xor x y (suc zero) zero h k =
    xor_assoc x y 0x82F63B78 ∙ ap (bit_xor x) (xor_comm y 0x82F63B78) ∙ sym (xor_assoc x 0x82F63B78 y)
one_shift-xor x y (suc zero) (suc zero) h k =
    sym (xor_zero_r (bit_xor x y)) ∙ ap (bit_xor (bit_xor x y)) (sym (xor_self 0x82F63B78)) ∙ xor_swap x y 0x82F63B78 0x82F63B78
one_shift-xor x y zero (suc (suc n)) h k = absurd (omega arith)
one_shift-xor x y (suc zero) (suc (suc n)) h k = absurd (omega arith)
one_shift-xor x y (suc (suc m)) n h k = absurd (omega arith)

-- crc_bit, which unfolds only where it is asked for
unfoldable pub bit_shift : ℕ → ℕ
bit_shift r = crc_bit r

bit_shift-xor : (a b : ℕ) → bit_shift (bit_xor a b) ≡ bit_xor (bit_shift a) (bit_shift b)
unfolding bit_shift one_shift
bit_shift-xor a b =
    ap (λ half. one_shift half (bit_xor a b % 2)) (xor_shr a b 1) ∙ ap (one_shift (bit_xor (a / 2) (b / 2))) (xor_mod a b 1)
    ∙ one_shift-xor (a / 2) (b / 2) (a % 2) (b % 2) (omega arith) (omega arith)

bit_shift-even : (h r : ℕ) → r ≡ 2 * h → bit_shift r ≡ h
unfolding bit_shift one_shift
bit_shift-even h r e =
    let even : r % 2 ≡ 0 = omega arith in
    let half : r / 2 ≡ h = omega arith in
    ap (λ low. one_shift (r / 2) low) even ∙ half

-- the register after eight shifts
unfoldable pub shifted : ℕ → ℕ
shifted r =
    bit_shift (bit_shift (bit_shift (bit_shift (bit_shift (bit_shift (bit_shift (bit_shift r)))))))

pub shifted-xor : (a b : ℕ) → shifted (bit_xor a b) ≡ bit_xor (shifted a) (shifted b)
unfolding shifted
shifted-xor a b =
    simp bit_shift-xor

shifted-whole : (h : ℕ) → shifted (h * 256) ≡ h
unfolding shifted
shifted-whole h =
    rw (
      bit_shift-even (h * 128) (h * 256) (omega arith),
      bit_shift-even (h * 64) (h * 128) (omega arith),
      bit_shift-even (h * 32) (h * 64) (omega arith),
      bit_shift-even (h * 16) (h * 32) (omega arith),
      bit_shift-even (h * 8) (h * 16) (omega arith),
      bit_shift-even (h * 4) (h * 8) (omega arith),
      bit_shift-even (h * 2) (h * 4) (omega arith),
      bit_shift-even h (h * 2) (omega arith),
    )

-- the lowest byte is looked up, and the others move down
pub shifted-split : (x : ℕ) → shifted x ≡ bit_xor (shifted (x % 256)) (x / 256)
shifted-split x =
    let whole : bit_xor (x / 256 * 256) (x % 256) ≡ x = xor_shifted (x / 256) 8 (x % 256) (omega arith) ∙ omega arith in
    ap shifted (sym whole) ∙ shifted-xor (x / 256 * 256) (x % 256) ∙ ap (λ h. bit_xor h (shifted (x % 256))) (shifted-whole (x / 256))
    ∙ xor_comm (x / 256) (shifted (x % 256))

-- many times eight shifts
unfoldable pub shifts : ℕ → ℕ → ℕ
shifts zero r = r
shifts (suc n) r = shifts n (shifted r)

pub shifts-xor : (n a b : ℕ) → shifts n (bit_xor a b) ≡ bit_xor (shifts n a) (shifts n b)
unfolding shifts
shifts-xor zero a b = refl
shifts-xor (suc n) a b = ap (shifts n) (shifted-xor a b) ∙ shifts-xor n (shifted a) (shifted b)

pub shifted-zero : shifted 0 ≡ 0
unfolding shifted bit_shift
shifted-zero = refl

pub shifts-zero : (n : ℕ) → shifts n 0 ≡ 0
unfolding shifts
shifts-zero zero = refl
shifts-zero (suc n) = ap (shifts n) shifted-zero ∙ shifts-zero n

-- The mask's rotations as sums.
use Rattle.std.proofs.Common.{◌≡◌, ℕ, ◌+◌, ◌*◌, ◌/◌, ◌%◌, ◌<◌, ap, ◌∙◌, arith}
use Rattle.std.specs.Int.Bits.{bit_or}
use Rattle.std.proofs.lemmas.Nat.{or_shifted, or_comm}

pub rotated_right : (n : ℕ) → n < 4294967296 → bit_or (n / 32768) ((n * 131072) % 4294967296) ≡ n % 32768 * 131072 + n / 32768
rotated_right n fits =
    let high : (n * 131072) % 4294967296 ≡ n % 32768 * 131072 = omega arith in
    ap (bit_or (n / 32768)) high ∙ or_comm (n / 32768) (n % 32768 * 131072) ∙ or_shifted (n % 32768) 17 (n / 32768) (omega arith)

pub rotated_left : (n : ℕ) → n < 4294967296 → bit_or ((n * 32768) % 4294967296) (n / 131072) ≡ n % 131072 * 32768 + n / 131072
rotated_left n fits =
    let high : (n * 32768) % 4294967296 ≡ n % 131072 * 32768 = omega arith in
    ap (λ h. bit_or h (n / 131072)) high ∙ or_shifted (n % 131072) 15 (n / 131072) (omega arith)

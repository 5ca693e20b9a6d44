-- Bytes go in piece by piece.
use Rattle.std.proofs.Common.{◌≡◌, ℕ, ◌+◌, ◌*◌, ◌-◌, ◌<◌, List, [], ◌∷◌, ◌++◌, length, get_or, take, drop, sym, ap, ◌∙◌, arith}
use Rattle.std.proofs.lemmas.List.{take_more}
use Rattle.std.proofs.lemmas.List.Sums.{fold-append}
use Rattle.std.proofs.Math.Seq.{take-add}
use Rattle.std.specs.Int.Bits.{bit_xor, xor_assoc, xor_zero_r}
use Rattle.crc32c_core.specs.Checksum.{crc_byte, crc32c}
use Rattle.crc32c_core.specs.Register.{register_after}

pub register_after-append : (r : ℕ) (front back : List ℕ) → register_after r (front ++ back) ≡ register_after (register_after r front) back
unfolding register_after
register_after-append r front back = fold-append crc_byte r front back

-- one more byte
pub register_after-byte_more : (r : ℕ) (bytes : List ℕ) (i : ℕ) → i < length bytes
    → register_after r (take (i + 1) bytes) ≡ register_after (register_after r (take i bytes)) (get_or bytes i 0 ∷ [])
register_after-byte_more r bytes i within =
    ap (register_after r) (take_more bytes i 0 within) ∙ register_after-append r (take i bytes) (get_or bytes i 0 ∷ [])

-- one more word of eight bytes
pub register_after-word_more : (r : ℕ) (bytes : List ℕ) (i : ℕ)
    → register_after r (take (8 * (i + 1)) bytes) ≡ register_after (register_after r (take (8 * i) bytes)) (take (8 * i + 8 - 8 * i) (drop (8 * i) bytes))
register_after-word_more r bytes i =
    let next : 8 * (i + 1) ≡ 8 * i + 8 = omega arith in
    let word : 8 ≡ 8 * i + 8 - 8 * i = omega arith in
    ap (λ n. register_after r (take n bytes)) next ∙ ap (register_after r) (take-add (8 * i) 8 bytes)
    ∙ register_after-append r (take (8 * i) bytes) (take 8 (drop (8 * i) bytes))
    ∙ ap (λ n. register_after (register_after r (take (8 * i) bytes)) (take n (drop (8 * i) bytes))) word

-- The checksum of a front leads to that of the whole.
pub crc32c-append : (crc : ℕ) (front back : List ℕ) → crc ≡ crc32c front
    → bit_xor (register_after (bit_xor crc 0xFFFFFFFF) back) 0xFFFFFFFF ≡ crc32c (front ++ back)
unfolding crc32c register_after
crc32c-append crc front back is =
    let before : bit_xor crc 0xFFFFFFFF ≡ register_after 0xFFFFFFFF front =
    ap (λ x. bit_xor x 0xFFFFFFFF) is ∙ xor_assoc (register_after 0xFFFFFFFF front) 0xFFFFFFFF 0xFFFFFFFF
    ∙ xor_zero_r (register_after 0xFFFFFFFF front) in
    ap (λ r. bit_xor (register_after r back) 0xFFFFFFFF) before
    ∙ ap (λ r. bit_xor r 0xFFFFFFFF) (sym (register_after-append 0xFFFFFFFF front back))

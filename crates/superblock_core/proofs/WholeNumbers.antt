-- Numbers of 128 bits and their sixteen bytes, the highest first.
use Rattle.std.proofs.Common.{◌≡◌, ℕ, zero, suc, ◌+◌, ◌*◌, ◌/◌, ◌%◌, ◌^◌, ◌<◌, length, get_or, All, arith}
use Rattle.std.proofs.Math.Nat as nat
use Rattle.std.specs.Int.{w128, byte_at, bytes_high_first, to_be_bytes, from_be_bytes}
use Rattle.uuid.proofs.TextLemmas.{all_fit}

byte_and_rest : (n p : ℕ) → n / p ≡ n / p % 256 + n / (p * 256) * 256
byte_and_rest n p = omega (arith, nat.div-div-eq-div-mul n p 256)

-- bytes, each of which is followed by the rest of the number
joined : (n b0 b1 b2 b3 b4 b5 b6 b7 b8 b9 b10 b11 b12 b13 b14 b15 r1 r2 r3 r4 r5 r6 r7 r8 r9 r10 r11 r12 r13 r14 r15 : ℕ) → n ≡ b0 + r1 * 256 → r1 ≡ b1 + r2 * 256 → r2 ≡ b2 + r3 * 256 → r3 ≡ b3 + r4 * 256 → r4 ≡ b4 + r5 * 256 → r5 ≡ b5 + r6 * 256 → r6 ≡ b6 + r7 * 256 → r7 ≡ b7 + r8 * 256 → r8 ≡ b8 + r9 * 256 → r9 ≡ b9 + r10 * 256 → r10 ≡ b10 + r11 * 256 → r11 ≡ b11 + r12 * 256 → r12 ≡ b12 + r13 * 256 → r13 ≡ b13 + r14 * 256 → r14 ≡ b14 + r15 * 256 → r15 ≡ b15
    → b15 * 1329227995784915872903807060280344576 + b14 * 5192296858534827628530496329220096 + b13 * 20282409603651670423947251286016 + b12 * 79228162514264337593543950336 + b11 * 309485009821345068724781056 + b10 * 1208925819614629174706176 + b9 * 4722366482869645213696 + b8 * 18446744073709551616 + b7 * 72057594037927936 + b6 * 281474976710656 + b5 * 1099511627776 + b4 * 4294967296 + b3 * 16777216 + b2 * 65536 + b1 * 256 + b0 ≡ n
joined n b0 b1 b2 b3 b4 b5 b6 b7 b8 b9 b10 b11 b12 b13 b14 b15 r1 r2 r3 r4 r5 r6 r7 r8 r9 r10 r11 r12 r13 r14 r15 at_0 at_1 at_2 at_3 at_4 at_5 at_6 at_7 at_8 at_9 at_10 at_11 at_12 at_13 at_14 at_15 = omega arith

-- a number is read from the bytes that are written for it
pub number_again : (n : ℕ) → n < 2 ^ 128 → from_be_bytes w128 (to_be_bytes w128 n) ≡ n
number_again n fits =
    let low : n ≡ n % 256 + n / 256 * 256 = omega arith in
    let high : n / 1329227995784915872903807060280344576 ≡ n / 1329227995784915872903807060280344576 % 256 = omega arith in
    joined n _ _ _ _ _ _ _ _ _ _ _ _ _ _ _ _ _ _ _ _ _ _ _ _ _ _ _ _ _ _ _ low (byte_and_rest n 256) (byte_and_rest n 65536) (byte_and_rest n 16777216) (byte_and_rest n 4294967296) (byte_and_rest n 1099511627776) (byte_and_rest n 281474976710656) (byte_and_rest n 72057594037927936) (byte_and_rest n 18446744073709551616) (byte_and_rest n 4722366482869645213696) (byte_and_rest n 1208925819614629174706176) (byte_and_rest n 309485009821345068724781056) (byte_and_rest n 79228162514264337593543950336) (byte_and_rest n 20282409603651670423947251286016) (byte_and_rest n 5192296858534827628530496329220096) high

byte_is_small : (i n : ℕ) → byte_at i n < 256
byte_is_small zero n = omega arith
byte_is_small (suc i) n = omega arith

bytes_are_small : (k n i : ℕ) → i < length (bytes_high_first k n) → get_or (bytes_high_first k n) i 0 < 256
bytes_are_small zero n i within = absurd (omega arith)
bytes_are_small (suc k) n zero within = byte_is_small k n
bytes_are_small (suc k) n (suc i) within = bytes_are_small k n i (omega arith)

-- each of them is a byte
pub bytes_fit : (n : ℕ) → All (λ b. b < 256) (to_be_bytes w128 n)
bytes_fit n = all_fit (to_be_bytes w128 n) (λ k within. bytes_are_small 16 n k within)

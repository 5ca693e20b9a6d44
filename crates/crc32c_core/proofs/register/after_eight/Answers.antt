use Rattle.std.proofs.Common.{◌≡◌, ◌/◌, ◌%◌, ◌∷◌, ap, ◌∙◌, arith, get_or, replicate}
use Rattle.std.specs.Int.Bits.{bit_xor}
use Rattle.crc32c_core.specs.Register.{register_after}
use Rattle.crc32c_core.proofs.Shifts.{shifts}
use Rattle.crc32c_core.proofs.Lookups.{register_after-byte_zeros, register_after-word}
use Rattle.crc32c_core.proofs.register.after_eight.Goals as goal

pub returns : goal.returns
returns c =
    let look-0 : c.after_zeros.result ≡ shifts 8 (bit_xor (c.args.register % 256) (get_or c.args.bytes.now 0 0)) =
    c.after_zeros.ensures ∙ ap (λ low. register_after 0 (bit_xor (get_or low 0 0) (get_or c.args.bytes.now 0 0) ∷ replicate 7 0)) c.to_le_bytes.ensures
    ∙ register_after-byte_zeros 7 (bit_xor (c.args.register % 256) (get_or c.args.bytes.now 0 0)) in
    let look-1 : c.after_zeros-2.result ≡ shifts 7 (bit_xor (c.args.register / 256 % 256) (get_or c.args.bytes.now 1 0)) =
    c.after_zeros-2.ensures ∙ ap (λ low. register_after 0 (bit_xor (get_or low 1 0) (get_or c.args.bytes.now 1 0) ∷ replicate 6 0)) c.to_le_bytes.ensures
    ∙ register_after-byte_zeros 6 (bit_xor (c.args.register / 256 % 256) (get_or c.args.bytes.now 1 0)) in
    let look-2 : c.after_zeros-3.result ≡ shifts 6 (bit_xor (c.args.register / 65536 % 256) (get_or c.args.bytes.now 2 0)) =
    c.after_zeros-3.ensures ∙ ap (λ low. register_after 0 (bit_xor (get_or low 2 0) (get_or c.args.bytes.now 2 0) ∷ replicate 5 0)) c.to_le_bytes.ensures
    ∙ register_after-byte_zeros 5 (bit_xor (c.args.register / 65536 % 256) (get_or c.args.bytes.now 2 0)) in
    let look-3 : c.after_zeros-4.result ≡ shifts 5 (bit_xor (c.args.register / 16777216 % 256) (get_or c.args.bytes.now 3 0)) =
    c.after_zeros-4.ensures ∙ ap (λ low. register_after 0 (bit_xor (get_or low 3 0) (get_or c.args.bytes.now 3 0) ∷ replicate 4 0)) c.to_le_bytes.ensures
    ∙ register_after-byte_zeros 4 (bit_xor (c.args.register / 16777216 % 256) (get_or c.args.bytes.now 3 0)) in
    let look-4 : c.after_zeros-5.result ≡ shifts 4 (get_or c.args.bytes.now 4 0) = c.after_zeros-5.ensures ∙ register_after-byte_zeros 3 (get_or c.args.bytes.now 4 0) in
    let look-5 : c.after_zeros-6.result ≡ shifts 3 (get_or c.args.bytes.now 5 0) = c.after_zeros-6.ensures ∙ register_after-byte_zeros 2 (get_or c.args.bytes.now 5 0) in
    let look-6 : c.after_zeros-7.result ≡ shifts 2 (get_or c.args.bytes.now 6 0) = c.after_zeros-7.ensures ∙ register_after-byte_zeros 1 (get_or c.args.bytes.now 6 0) in
    let look-7 : c.after_zeros-8.result ≡ shifts 1 (get_or c.args.bytes.now 7 0) = c.after_zeros-8.ensures ∙ register_after-byte_zeros 0 (get_or c.args.bytes.now 7 0) in
    let word = register_after-word c.args.register c.args.bytes.now (omega arith) c.requires (λ i. omega (arith, c.type_inv.bytes i)) in
    cc

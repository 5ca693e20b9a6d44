use Rattle.std.proofs.Common.{◌/◌, ◌%◌, ◌∷◌, [], ap, sym, ◌∙◌, arith, get_or}
use Rattle.std.specs.Int.Bits.{bit_xor}
use Rattle.crc32c_core.specs.Register.{register_after}
use Rattle.crc32c_core.proofs.Lookups.{register_after-byte_zeros, register_after-byte}
use Rattle.crc32c_core.proofs.register.after_byte.Goals as goal

pub returns : goal.returns
returns c =
    ap (λ x. bit_xor x (c.args.register / 256))
    (c.after_zeros.ensures ∙ ap (λ bytes. register_after 0 (bit_xor (get_or bytes 0 0) c.args.byte ∷ [])) c.to_le_bytes.ensures
    ∙ register_after-byte_zeros 0 (bit_xor (c.args.register % 256) c.args.byte))
    ∙ sym (register_after-byte c.args.register c.args.byte (omega arith))

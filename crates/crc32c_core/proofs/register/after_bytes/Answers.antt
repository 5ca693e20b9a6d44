use Rattle.std.proofs.Common.{ap, sym, ◌∙◌, ◌∷◌, [], get_or, arith}
use Rattle.crc32c_core.specs.Register.{register_after}
use Rattle.crc32c_core.proofs.Lookups.{register_after-nil}
use Rattle.crc32c_core.proofs.Pieces.{register_after-byte_more}
use Rattle.crc32c_core.proofs.register.after_bytes.Goals as goal

pub loop-byte-init : goal.loop-byte-init
loop-byte-init c = sym (register_after-nil c.args.register)

pub loop-byte-preserved : goal.loop-byte-preserved
loop-byte-preserved c =
    c.after_byte-register.ensures
    ∙ ap (λ r. register_after r (get_or c.args.bytes.now c.loop-byte.byte-index 0 ∷ [])) c.loop-byte.invariant
    ∙ sym (register_after-byte_more c.args.register c.args.bytes.now c.loop-byte.byte-index (omega arith))

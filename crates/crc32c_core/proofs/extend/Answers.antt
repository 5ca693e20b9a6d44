use Rattle.std.proofs.Common.{ap, ◌∙◌}
use Rattle.std.specs.Int.Bits.{bit_xor}
use Rattle.crc32c_core.proofs.Pieces.{crc32c-append}
use Rattle.crc32c_core.proofs.extend.Goals as goal

pub returns : goal.returns
returns c = λ front is.
    ap (λ r. bit_xor r 0xFFFFFFFF) c.after.ensures ∙ crc32c-append c.args.crc front c.args.bytes.now is

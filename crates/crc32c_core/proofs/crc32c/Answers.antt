use Rattle.std.proofs.Common.{ap}
use Rattle.std.specs.Int.Bits.{bit_xor}
use Rattle.crc32c_core.specs.Checksum.{crc32c}
use Rattle.crc32c_core.specs.Register.{register_after}
use Rattle.crc32c_core.proofs.crc32c.Goals as goal

pub returns : goal.returns
unfolding crc32c register_after
returns c = ap (λ r. bit_xor r 0xFFFFFFFF) c.after.ensures

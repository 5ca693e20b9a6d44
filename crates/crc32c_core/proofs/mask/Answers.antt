use Rattle.std.proofs.Common.{rules}
use Rattle.crc32c_core.specs.Checksum.{masked}
use Rattle.crc32c_core.proofs.mask.Goals as goal

pub returns : goal.returns
unfolding masked
returns c = search rules

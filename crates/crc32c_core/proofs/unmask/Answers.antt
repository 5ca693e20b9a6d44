use Rattle.std.proofs.Common.{arith, ◌+◌, ◌%◌}
use Rattle.crc32c_core.specs.Checksum.{masked}
use Rattle.crc32c_core.proofs.Rotations.{rotated_right, rotated_left}
use Rattle.crc32c_core.proofs.unmask.Goals as goal

pub returns-clause-of_mask : goal.returns-clause-of_mask
unfolding masked
returns-clause-of_mask c = λ crc fits is. omega (arith, is, rotated_right crc fits, c.rotate_left.ensures, rotated_left ((c.args.stored + 1568478504) % 4294967296) (omega arith))

pub returns-clause-to_mask : goal.returns-clause-to_mask
unfolding masked
returns-clause-to_mask c = omega (arith, c.rotate_left.ensures, rotated_right c.rotate_left.result c.rotate_left.type_inv, rotated_left ((c.args.stored + 1568478504) % 4294967296) (omega arith))

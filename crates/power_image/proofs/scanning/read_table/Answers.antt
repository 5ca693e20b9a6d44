use Rattle.std.proofs.Common.{arith}
use Rattle.power_image.proofs.Places.{descriptors_within}
use Rattle.power_image.proofs.scanning.read_table.Goals as goal

pub read_at-requires-clause-within : goal.read_at-requires-clause-within
read_at-requires-clause-within g c = omega (arith, descriptors_within c.args.geometry, c.requires.holds.long, c.deref_mut.ensures.len, c.in-Ok.ensures.len)

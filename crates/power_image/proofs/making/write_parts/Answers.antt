use Rattle.std.proofs.Common.{List, ℕ, length, ap, arith}
use Rattle.power_image.proofs.Made.{blank_long}
use Rattle.power_image.proofs.making.write_parts.Goals as goal

pub write_front-requires-clause-size : goal.write_front-requires-clause-size
write_front-requires-clause-size g c = omega (arith, ap (λ (l : List ℕ). length l) c.requires.front, blank_long c.args.geometry.now)

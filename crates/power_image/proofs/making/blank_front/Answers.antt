use Rattle.std.proofs.Common.{arith}
use Rattle.power_image.proofs.Made.{gates_fit}
use Rattle.power_image.proofs.making.blank_front.Goals as goal

pub open_first_gates-requires : goal.open_first_gates-requires
open_first_gates-requires c = omega (arith, gates_fit c.args.geometry.now, c.deref_mut.ensures.len, c.in_ok-front.ensures.len, c.zones_at.ensures.place)

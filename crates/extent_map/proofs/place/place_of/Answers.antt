use Rattle.std.proofs.Common.{◌+◌, ◌-◌, ◌/◌, arith}
use Rattle.extent_map.proofs.HalfLaws.{place_within, before_place, from_place}
use Rattle.extent_map.proofs.place.place_of.Goals as goal

pub halves-init : goal.halves-init
halves-init c = record { low = omega arith; high = place_within c.args.id c.args.rows.now; within = omega arith }

pub halves-preserved-then-id : goal.halves-preserved-then-id
halves-preserved-then-id c =
    let before = before_place 0 c.args.id c.args.rows.now (c.halves.low + (c.halves.high - c.halves.low) / 2) c.index-rows-middle.result c.requires (omega arith)
    (rw (← c.index-rows-middle.is) (omega arith)) in
    record { low = omega (arith, before); high = c.halves.invariant.high; within = c.halves.invariant.within }

pub halves-preserved : goal.halves-preserved
halves-preserved c =
    let from = from_place c.args.id c.args.rows.now (c.halves.low + (c.halves.high - c.halves.low) / 2) c.index-rows-middle.result (omega arith)
    (rw (← c.index-rows-middle.is) (omega arith)) in
    record { low = c.halves.invariant.low; high = from; within = omega arith }

use Rattle.std.proofs.Common.{arith}
use Rattle.fs_model.specs.ZonePolicy.{unused_bytes}
use Rattle.zone_alloc.proofs.ZoneWalks.{sum-step, sum-end}
use Rattle.zone_alloc.proofs.space.reclaimable_bytes.Goals as goal

pub loop-i-preserved : goal.loop-i-preserved
loop-i-preserved c =
    let step = sum-step (unused_bytes c.args.geometry.now) c.args.zones.now c.loop-i.i c.loop-i-test.true in
    (omega (arith, step, c.unused_bytes-unused.ensures.exact), omega arith)

pub returns : goal.returns
returns c = omega (arith, sum-end (unused_bytes c.args.geometry.now) c.args.zones.now c.loop-i.i c.loop-i-test.false)

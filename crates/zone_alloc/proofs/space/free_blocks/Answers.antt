use Rattle.std.proofs.Common.{◌≡◌, ℕ, ◌*◌, length, ap, arith}
use Rattle.fs_model.specs.ZonePolicy.{Numbered, room_of}
use Rattle.zone_alloc.proofs.ZoneWalks.{sum-step, sum-end}
use Rattle.zone_alloc.proofs.space.free_blocks.Goals as goal

pub loop-i-preserved : goal.loop-i-preserved
loop-i-preserved c =
    let step = sum-step (λ (z : Numbered). room_of c.args.capacity z.1) c.args.zones.now c.loop-i.i c.loop-i-test.true in
    (omega (arith, step), omega arith)

pub returns-clause-exact : goal.returns-clause-exact
returns-clause-exact c = omega (arith, sum-end (λ (z : Numbered). room_of c.args.capacity z.1) c.args.zones.now c.loop-i.i c.loop-i-test.false)

pub returns-clause-small : goal.returns-clause-small
returns-clause-small c =
    let ends : c.loop-i.i ≡ length c.args.zones.now = omega arith in
    omega (arith, ap (λ (n : ℕ). n * c.args.capacity) ends)

use Rattle.std.proofs.Common.{ℕ}
use Rattle.std.proofs.lemmas.List.{take_more}
use Rattle.record_model.specs.declared.types.Extent.{Extent}
use Rattle.mount_replay.specs.Neighbours.{extent_at}
use Rattle.mount_replay.proofs.EnteringLaws.{extent_entered, extent_more}
use Rattle.mount_replay.proofs.filling.enter_extents.Goals as goal

pub loop-i-preserved : goal.loop-i-preserved
loop-i-preserved c =
    let g = c.args.geometry.now in
    let xs = c.args.extents.now in
    let i : ℕ = c.loop-i.i in
    let x : Extent = extent_at xs i in
    let none : Extent = record { start = 0; len = 0 } in
    extent_more g c.args.hint xs i x c.args.starts.now c.loop-i.starts c.enter_extent.new.starts c.args.zones.now c.loop-i.zones c.enter_extent.new.zones (take_more xs i none c.loop-i-test.true) c.loop-i.invariant
    (extent_entered g c.args.hint x c.loop-i.starts c.enter_extent.new.starts c.loop-i.zones c.enter_extent.new.zones c.loop-i.invariant.marks (c.requires.lie i none c.loop-i-test.true) c.enter_extent.ensures.starts c.enter_extent.ensures.zones)

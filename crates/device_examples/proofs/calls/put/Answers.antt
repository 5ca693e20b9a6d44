use Rattle.std.proofs.Common.{false}
use Rattle.zone_image.specs.Changes.{blocks_in}
use Rattle.zoned_device.specs.MemState.{geometry_of, image_of}
use Rattle.zoned_device.specs.MemLaws.{mem_possible}
use Rattle.device_examples.proofs.ActiveZones.{few_changed}
use Rattle.device_examples.proofs.calls.put.Goals as goal

pub put-requires-clause-active : goal.put-requires-clause-active
put-requires-clause-active c =
    let dev = c.probe.new.self in
    few_changed c.in_ok-shape.shape (geometry_of dev) (image_of dev) c.args.zone
    (λ _. record { blocks = blocks_in (geometry_of dev) c.args.bytes.now; kept = c.args.kept; sealed = false })
    c.in_ok-shape.ensures.shape (mem_possible dev c.in_ok-shape.ensures.found) (c.is_narrow.ensures c.if-is_narrow.false)

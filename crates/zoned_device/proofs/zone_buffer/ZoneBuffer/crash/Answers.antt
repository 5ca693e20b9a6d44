use Rattle.std.proofs.Common.{◌∙◌, ap, min}
use Rattle.zoned_device.proofs.ZoneLists.{cut_zone}
use Rattle.zoned_device.proofs.zone_buffer.ZoneBuffer.crash.Goals as goal

pub returns-clause-zone : goal.returns-clause-zone
returns-clause-zone c =
    let b = c.args.self.now in
    cut_zone c.args.geometry.now.block b.written b.kept c.args.keep c.min-left.result b.bytes.items c.truncate.new.self.items b.sealed
    (c.min-left.ensures ∙ ap (min b.written) c.max.ensures) c.truncate.ensures.items

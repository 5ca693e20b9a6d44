use Rattle.std.proofs.Common.{get_or, arith}
use Rattle.std.proofs.lemmas.List.{get_or_default}
use Rattle.std.proofs.lemmas.List.Edits.{map_over_more}
use Rattle.zoned_device.specs.Memory.{synced_buffer}
use Rattle.zoned_device.proofs.zone_buffer.sync.Goals as goal

pub loop-buffer-preserved : goal.loop-buffer-preserved
loop-buffer-preserved c =
    let zones = c.loop-buffer.zones in
    let at = c.loop-buffer.buffer-index in
    let here = get_or zones at c.buffer-item.result in
    map_over_more synced_buffer c.args.zones.now zones at here (omega arith) c.loop-buffer.invariant (get_or_default zones at c.buffer-item.result here (omega arith))

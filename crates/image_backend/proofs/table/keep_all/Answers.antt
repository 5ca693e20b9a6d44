use Rattle.std.proofs.Common.{get_or, arith}
use Rattle.std.proofs.lemmas.List.{get_or_default}
use Rattle.std.proofs.lemmas.List.Edits.{map_over_more}
use Rattle.image_backend.specs.Table.{no_slot, slot_synced}
use Rattle.image_backend.proofs.table.keep_all.Goals as goal

pub loop-slot-preserved : goal.loop-slot-preserved
loop-slot-preserved c =
    let slots = c.loop-slot.slots in
    let at = c.loop-slot.slot-index in
    map_over_more slot_synced c.args.slots.now slots at (get_or slots at no_slot) (omega arith) c.loop-slot.invariant (get_or_default slots at no_slot (get_or slots at no_slot) (omega arith))

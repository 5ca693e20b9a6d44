use Rattle.std.proofs.Common.{◌≡◌, ◌++◌, map, take, drop}
use Rattle.image_backend.specs.Table.{slot_synced}
use Rattle.image_backend.proofs.table.keep_all.Given as goal

-- those before the index are synced
abbrev pub invariant-loop-slot : goal.invariant-loop-slot
invariant-loop-slot l = l.slots ≡ map slot_synced (take l.slot-index l.initial.slots) ++ drop l.slot-index l.initial.slots

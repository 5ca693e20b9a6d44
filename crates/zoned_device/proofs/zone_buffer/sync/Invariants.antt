use Rattle.std.proofs.Common.{◌≡◌, ◌++◌, map, take, drop}
use Rattle.zoned_device.specs.Memory.{synced_buffer}
use Rattle.zoned_device.proofs.zone_buffer.sync.Given as goal

-- those before the index are synced
abbrev pub invariant-loop-buffer : goal.invariant-loop-buffer
invariant-loop-buffer l = l.zones ≡ map synced_buffer (take l.buffer-index l.initial.zones) ++ drop l.buffer-index l.initial.zones

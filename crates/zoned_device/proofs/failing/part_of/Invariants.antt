use Rattle.std.proofs.Common.{◌≡◌, drop}
use Rattle.zoned_device.specs.CallState.{listed_part}
use Rattle.zoned_device.proofs.failing.part_of.Given as goal

-- the rest of the list decides
abbrev pub invariant-loop-failing : goal.invariant-loop-failing
invariant-loop-failing l = listed_part (drop l.failing-index l.fails) l.number ≡ listed_part l.fails l.number

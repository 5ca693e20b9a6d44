use Rattle.power_image.proofs.Filling.{IsFilled}
use Rattle.power_image.proofs.power_mem.fill_open.Given as goal

-- the places before the index are filled
abbrev pub invariant-loop-n : goal.invariant-loop-n
invariant-loop-n l = IsFilled l.flags l.initial.bytes l.fill l.bytes l.at l.n

use Rattle.std.proofs.Common.{◌≡◌}
use Rattle.power_image.specs.Making.{with_gates}
use Rattle.power_image.proofs.making.open_first_gates.Given as goal

-- the gates of the zones before the index are open
abbrev pub invariant-loop-zone : goal.invariant-loop-zone
invariant-loop-zone l = l.front ≡ with_gates l.zone l.initial.front

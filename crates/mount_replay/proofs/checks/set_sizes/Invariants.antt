use Rattle.std.proofs.Common.{◌≡◌, ◌++◌, take, drop, map}
use Rattle.mount_replay.specs.Recovering.{sized}
use Rattle.mount_replay.proofs.checks.set_sizes.Given as goal

abbrev pub invariant-loop-i : goal.invariant-loop-i
invariant-loop-i l = l.files ≡ map sized (take l.i l.fn.files) ++ drop l.i l.fn.files

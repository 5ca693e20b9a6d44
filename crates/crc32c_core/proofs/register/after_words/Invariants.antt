use Rattle.std.proofs.Common.{◌≡◌, ◌*◌, take}
use Rattle.crc32c_core.specs.Register.{register_after}
use Rattle.crc32c_core.proofs.register.after_words.Given as goal

abbrev pub invariant-loop-i : goal.invariant-loop-i
invariant-loop-i l = l.register ≡ register_after l.fn.register (take (8 * l.i) l.words)

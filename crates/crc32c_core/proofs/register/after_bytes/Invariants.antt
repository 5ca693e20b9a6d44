use Rattle.std.proofs.Common.{◌≡◌, take}
use Rattle.crc32c_core.specs.Register.{register_after}
use Rattle.crc32c_core.proofs.register.after_bytes.Given as goal

abbrev pub invariant-loop-byte : goal.invariant-loop-byte
invariant-loop-byte l = l.register ≡ register_after l.fn.register (take l.byte-index l.bytes)

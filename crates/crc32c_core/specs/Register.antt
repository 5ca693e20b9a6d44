-- The shift register of the checksum.
use Rattle.std.specs.Prelude.{ℕ, List, fold}
use Rattle.crc32c_core.specs.Checksum.{crc_byte}

-- the register after these bytes
unfoldable pub register_after : ℕ → List ℕ → ℕ
register_after r bytes = fold crc_byte r bytes

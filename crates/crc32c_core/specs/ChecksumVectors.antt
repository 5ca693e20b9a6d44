-- Checksums of known texts, computed.
use Rattle.std.specs.Prelude.{◌≡◌, replicate, codes, refl}
use Rattle.crc32c_core.specs.Checksum.{crc32c, masked}

-- the checksum of nine digits
crc_digits : crc32c (codes "123456789") ≡ 0xE3069283
unfolding crc32c
crc_digits = refl

-- the same as it is stored
crc_masked : masked 0xE3069283 ≡ 0xC78AB0E5
unfolding masked
crc_masked = refl

-- of zeros
crc_zeros : crc32c (replicate 32 0) ≡ 0x8A9136AA
unfolding crc32c
crc_zeros = refl

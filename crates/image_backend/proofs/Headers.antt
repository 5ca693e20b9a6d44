-- What is read of a header and of a descriptor that were written.
use Rattle.std.proofs.Common.{◌≡◌, ℕ, ◌^◌, ◌*◌, ◌<◌, ◌≤◌, Bool, true, false, not, ◌&&◌, ◌||◌, ◌==◌, cond, [], ◌++◌, length, replicate, refl, ◌∙◌, ap, arith, IsTrue, eq-eqb}
use Rattle.std.specs.Prelude.{nat_le}
use Rattle.std.proofs.lemmas.Bool.Decides.{nat_tests}
use Rattle.byteorder.specs.Endian.{little_number}
use Rattle.byteorder.specs.Numbers.{little_number-reads_back}
use Rattle.crc32c_core.specs.Checksum.{crc32c, masked}
use Rattle.zone_image.specs.declared.Geometry.{Geometry}
use Rattle.zone_image.specs.declared.ZoneInfo.{ZoneInfo}
use Rattle.zone_image.specs.Image.{is_valid}
use Rattle.zone_image.specs.Infos.{no_info, IsPossibleInfo}
use Rattle.image_backend.specs.Format.{u32, u32_at, header_front, header_bytes, geometry_in, is_marked, is_header, descriptor_bytes, info_in, is_descriptor}

-- the numbers of a valid geometry are numbers of four bytes
record Small (g : Geometry) : Type 0 where
  block : g.block < 2 ^ 32
  zone_blocks : g.zone_blocks < 2 ^ 32
  capacity : g.capacity < 2 ^ 32
  zones : g.zones < 2 ^ 32
  active_limit : g.active_limit < 2 ^ 32

one_block : (blocks block : ℕ) → 1 ≤ block → blocks ≤ blocks * block
one_block blocks block some = grind arith

pub small_capacity : (g : Geometry) → IsTrue (is_valid g) → g.zone_blocks < 2 ^ 32
small_capacity g valid =
    let size : g.zone_blocks * g.block < 2 ^ 32 = grind (arith, nat_tests, valid) in
    let block : 1 ≤ g.block = grind (arith, nat_tests, valid) in
    omega (arith, size, one_block g.zone_blocks g.block block)

pub capacity_fits : (g : Geometry) → IsTrue (is_valid g) → g.capacity ≤ g.zone_blocks
capacity_fits g valid = grind (arith, nat_tests, valid)

small_numbers : (g : Geometry) → IsTrue (is_valid g) → Small g
small_numbers g valid =
    let blocks = small_capacity g valid in
    record {
      block = grind (arith, nat_tests, valid);
      zone_blocks = blocks;
      capacity = grind (arith, nat_tests, valid, blocks);
      zones = grind (arith, nat_tests, valid);
      active_limit = grind (arith, nat_tests, valid);
    }

geometry_written : (g : Geometry) → IsTrue (is_valid g) → geometry_in (header_bytes g) ≡ g
unfolding geometry_in header_bytes
geometry_written g valid = λ i. record { block = block i; zone_blocks = zone_blocks i; capacity = capacity i; zones = zones i; active_limit = active_limit i }
  where
    small : Small g
    small = small_numbers g valid

    block : u32_at 8 (header_front g ++ u32 (masked (crc32c (header_front g)))) ≡ g.block
    block = little_number-reads_back 4 g.block (u32 g.zone_blocks ++ u32 g.capacity ++ u32 g.zones ++ u32 g.active_limit ++ u32 (masked (crc32c (header_front g)))) small.block

    zone_blocks : u32_at 12 (header_front g ++ u32 (masked (crc32c (header_front g)))) ≡ g.zone_blocks
    zone_blocks = little_number-reads_back 4 g.zone_blocks (u32 g.capacity ++ u32 g.zones ++ u32 g.active_limit ++ u32 (masked (crc32c (header_front g)))) small.zone_blocks

    capacity : u32_at 16 (header_front g ++ u32 (masked (crc32c (header_front g)))) ≡ g.capacity
    capacity = little_number-reads_back 4 g.capacity (u32 g.zones ++ u32 g.active_limit ++ u32 (masked (crc32c (header_front g)))) small.capacity

    zones : u32_at 20 (header_front g ++ u32 (masked (crc32c (header_front g)))) ≡ g.zones
    zones = little_number-reads_back 4 g.zones (u32 g.active_limit ++ u32 (masked (crc32c (header_front g)))) small.zones

    active_limit : u32_at 24 (header_front g ++ u32 (masked (crc32c (header_front g)))) ≡ g.active_limit
    active_limit = little_number-reads_back 4 g.active_limit (u32 (masked (crc32c (header_front g)))) small.active_limit

small_mask : (crc : ℕ) → masked crc < 2 ^ 32
unfolding masked
small_mask crc = omega arith

marked : (g : Geometry) → is_marked (header_bytes g) ≡ true
unfolding is_marked header_bytes
marked g = eq-eqb (u32_at 28 (header_front g ++ u32 (masked (crc32c (header_front g))))) (masked (crc32c (header_front g))) (little_number-reads_back 4 (masked (crc32c (header_front g))) [] (small_mask (crc32c (header_front g))))

both : (a b : Bool) → a ≡ true → b ≡ true → (a && b) ≡ true
both a b first second = ap (λ x. x && b) first ∙ second

pub header_is : (g : Geometry) → IsTrue (is_valid g) → is_header (header_bytes g) ≡ true
header_is g valid = both (is_marked (header_bytes g)) (is_valid (geometry_in (header_bytes g))) (marked g) (ap is_valid (geometry_written g valid) ∙ valid)

pub header_geometry : (g : Geometry) → IsTrue (is_valid g) → geometry_in (header_bytes g) ≡ g
header_geometry = geometry_written

pub length-header : (g : Geometry) → length (header_bytes g) ≡ 32
unfolding header_bytes
length-header g = refl

pub length-descriptor : (info : ZoneInfo) → length (descriptor_bytes info) ≡ 8
unfolding descriptor_bytes
length-descriptor info = refl

sealed_number : (sealed : Bool) → little_number 4 (u32 (cond sealed 1 0)) ≡ cond sealed 1 0
sealed_number true = refl
sealed_number false = refl

is_one : (sealed : Bool) → (cond sealed 1 0 == 1) ≡ sealed
is_one true = refl
is_one false = refl

-- a descriptor says what was written
pub info_written : (info : ZoneInfo) → info.written < 2 ^ 32 → info_in (descriptor_bytes info) ≡ info
unfolding info_in descriptor_bytes
info_written info small = λ i. record { written = number i; sealed = seal i }
  where
    number : u32_at 0 (u32 info.written ++ u32 (cond info.sealed 1 0)) ≡ info.written
    number = little_number-reads_back 4 info.written (u32 (cond info.sealed 1 0)) small

    seal : (u32_at 4 (u32 info.written ++ u32 (cond info.sealed 1 0)) == 1) ≡ info.sealed
    seal = ap (λ n. n == 1) (sealed_number info.sealed) ∙ is_one info.sealed

numbers_possible : (written capacity : ℕ) (sealed : Bool) → written ≤ capacity → (written ≡ capacity → IsTrue sealed)
    → (nat_le written capacity && nat_le (cond sealed 1 0) 1 && (not (written == capacity) || (cond sealed 1 0 == 1))) ≡ true
numbers_possible written capacity true room full = grind (arith, nat_tests)
numbers_possible written capacity false room full = grind (arith, nat_tests)

-- the descriptor of a zone that is possible is possible
pub descriptor_possible : (g : Geometry) (info : ZoneInfo) → info.written < 2 ^ 32 → IsPossibleInfo g info → is_descriptor g (descriptor_bytes info) ≡ true
unfolding is_descriptor descriptor_bytes
descriptor_possible g info small is =
    ap (λ n. nat_le n g.capacity && nat_le (u32_at 4 (u32 info.written ++ u32 (cond info.sealed 1 0))) 1 && (not (n == g.capacity) || (u32_at 4 (u32 info.written ++ u32 (cond info.sealed 1 0)) == 1)))
    (little_number-reads_back 4 info.written (u32 (cond info.sealed 1 0)) small)
    ∙ ap (λ n. nat_le info.written g.capacity && nat_le n 1 && (not (info.written == g.capacity) || (n == 1))) (sealed_number info.sealed)
    ∙ numbers_possible info.written g.capacity info.sealed is.room is.full

-- zeros are the descriptor of an empty zone
pub info_of_zeros : info_in (replicate 8 0) ≡ no_info
unfolding info_in
info_of_zeros = refl

none_possible : (capacity : ℕ) → 8 ≤ capacity → (nat_le 0 capacity && nat_le 0 1 && (not (0 == capacity) || (0 == 1))) ≡ true
none_possible capacity least = grind (arith, nat_tests)

pub zeros_possible : (g : Geometry) → IsTrue (is_valid g) → is_descriptor g (replicate 8 0) ≡ true
unfolding is_descriptor
zeros_possible g valid = none_possible g.capacity (grind (arith, nat_tests, valid))

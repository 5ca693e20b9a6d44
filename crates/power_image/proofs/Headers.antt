-- What is read of a header that was written.
use Rattle.std.proofs.Common.{◌≡◌, ℕ, ◌^◌, ◌*◌, ◌<◌, ◌≤◌, Bool, true, ◌&&◌, [], ◌++◌, length, refl, ◌∙◌, ap, arith, IsTrue, eq-eqb}
use Rattle.std.proofs.lemmas.Bool.Decides.{nat_tests}
use Rattle.byteorder.specs.Numbers.{little_number-reads_back}
use Rattle.crc32c_core.specs.Checksum.{crc32c, masked}
use Rattle.zone_image.specs.declared.Geometry.{Geometry}
use Rattle.zone_image.specs.Image.{is_valid}
use Rattle.image_backend.specs.Format.{u32, u32_at, geometry_in}
use Rattle.power_image.specs.Layout.{header_front, header_bytes, is_marked, is_header}

-- the numbers of a valid geometry are numbers of four bytes
record Small (g : Geometry) : Type 0 where
  block : g.block < 2 ^ 32
  zone_blocks : g.zone_blocks < 2 ^ 32
  capacity : g.capacity < 2 ^ 32
  zones : g.zones < 2 ^ 32
  active_limit : g.active_limit < 2 ^ 32

one_block : (blocks block : ℕ) → 1 ≤ block → blocks ≤ blocks * block
one_block blocks block some = grind arith

pub small_capacity : (g : Geometry) → IsTrue (is_valid g) → g.zone_blocks < 2 ^ 32
small_capacity g valid =
    let size : g.zone_blocks * g.block < 2 ^ 32 = grind (arith, nat_tests, valid) in
    let block : 1 ≤ g.block = grind (arith, nat_tests, valid) in
    omega (arith, size, one_block g.zone_blocks g.block block)

pub capacity_fits : (g : Geometry) → IsTrue (is_valid g) → g.capacity ≤ g.zone_blocks
capacity_fits g valid = grind (arith, nat_tests, valid)

small_numbers : (g : Geometry) → IsTrue (is_valid g) → Small g
small_numbers g valid =
    let blocks = small_capacity g valid in
    record {
      block = grind (arith, nat_tests, valid);
      zone_blocks = blocks;
      capacity = grind (arith, nat_tests, valid, blocks);
      zones = grind (arith, nat_tests, valid);
      active_limit = grind (arith, nat_tests, valid);
    }

geometry_written : (g : Geometry) → IsTrue (is_valid g) → geometry_in (header_bytes g) ≡ g
unfolding geometry_in header_bytes
geometry_written g valid = λ i. record { block = block i; zone_blocks = zone_blocks i; capacity = capacity i; zones = zones i; active_limit = active_limit i }
  where
    small : Small g
    small = small_numbers g valid

    block : u32_at 8 (header_front g ++ u32 (masked (crc32c (header_front g)))) ≡ g.block
    block = little_number-reads_back 4 g.block (u32 g.zone_blocks ++ u32 g.capacity ++ u32 g.zones ++ u32 g.active_limit ++ u32 (masked (crc32c (header_front g)))) small.block

    zone_blocks : u32_at 12 (header_front g ++ u32 (masked (crc32c (header_front g)))) ≡ g.zone_blocks
    zone_blocks = little_number-reads_back 4 g.zone_blocks (u32 g.capacity ++ u32 g.zones ++ u32 g.active_limit ++ u32 (masked (crc32c (header_front g)))) small.zone_blocks

    capacity : u32_at 16 (header_front g ++ u32 (masked (crc32c (header_front g)))) ≡ g.capacity
    capacity = little_number-reads_back 4 g.capacity (u32 g.zones ++ u32 g.active_limit ++ u32 (masked (crc32c (header_front g)))) small.capacity

    zones : u32_at 20 (header_front g ++ u32 (masked (crc32c (header_front g)))) ≡ g.zones
    zones = little_number-reads_back 4 g.zones (u32 g.active_limit ++ u32 (masked (crc32c (header_front g)))) small.zones

    active_limit : u32_at 24 (header_front g ++ u32 (masked (crc32c (header_front g)))) ≡ g.active_limit
    active_limit = little_number-reads_back 4 g.active_limit (u32 (masked (crc32c (header_front g)))) small.active_limit

small_mask : (crc : ℕ) → masked crc < 2 ^ 32
unfolding masked
small_mask crc = omega arith

marked : (g : Geometry) → is_marked (header_bytes g) ≡ true
unfolding is_marked header_bytes
marked g = eq-eqb (u32_at 28 (header_front g ++ u32 (masked (crc32c (header_front g))))) (masked (crc32c (header_front g))) (little_number-reads_back 4 (masked (crc32c (header_front g))) [] (small_mask (crc32c (header_front g))))

both : (a b : Bool) → a ≡ true → b ≡ true → (a && b) ≡ true
both a b first second = ap (λ x. x && b) first ∙ second

pub header_is : (g : Geometry) → IsTrue (is_valid g) → is_header (header_bytes g) ≡ true
header_is g valid = both (is_marked (header_bytes g)) (is_valid (geometry_in (header_bytes g))) (marked g) (ap is_valid (geometry_written g valid) ∙ valid)

pub header_geometry : (g : Geometry) → IsTrue (is_valid g) → geometry_in (header_bytes g) ≡ g
header_geometry = geometry_written

pub length-header : (g : Geometry) → length (header_bytes g) ≡ 32
unfolding header_bytes
length-header g = refl

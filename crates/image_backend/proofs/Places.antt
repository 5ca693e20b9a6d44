-- Where things stand in an image file.
use Rattle.std.proofs.Common.{◌≡◌, ℕ, ◌+◌, ◌*◌, ◌/◌, ◌%◌, ◌<◌, ◌≤◌, IsTrue, arith}
use Rattle.std.proofs.Math.Nat.{mul-le-mul_right}
use Rattle.zone_image.specs.declared.Geometry.{Geometry}
use Rattle.zone_image.specs.Address.{is_valid, zone_bytes}
use Rattle.zone_image.proofs.BlockLaws.{whole_bytes}
use Rattle.image_backend.specs.Format.{zones_at, image_bytes, block_at}

one_more : (n size : ℕ) → (n + 1) * size ≡ n * size + size
one_more n size = omega arith

-- blocks within a zone lie within the file
pub blocks_within : (g : Geometry) (zone block bytes : ℕ) → IsTrue (is_valid g) → zone < g.zones → bytes % g.block ≡ 0 → block + bytes / g.block ≤ g.capacity
    → block_at g zone block + bytes ≤ image_bytes g
blocks_within g zone block bytes valid is_zone whole room =
    let capacity : g.capacity ≤ g.zone_blocks = grind (arith, valid) in
    let blocks : (block + bytes / g.block) * g.block ≤ zone_bytes g = mul-le-mul_right g.block (omega (arith, room, capacity)) in
    let sum : (block + bytes / g.block) * g.block ≡ block * g.block + bytes / g.block * g.block = omega arith in
    let zones : (zone + 1) * zone_bytes g ≤ g.zones * zone_bytes g = mul-le-mul_right (zone_bytes g) (omega (arith, is_zone)) in
    let next : (zone + 1) * zone_bytes g ≡ zone * zone_bytes g + zone_bytes g = one_more zone (zone_bytes g) in
    omega (arith, blocks, sum, zones, next, whole_bytes bytes g.block whole)

-- the descriptors lie within the file
pub descriptors_within : (g : Geometry) → 4096 + g.zones * 8 ≤ image_bytes g
unfolding zones_at
descriptors_within g = omega arith

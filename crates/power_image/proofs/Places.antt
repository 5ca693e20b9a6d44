-- Where things stand in an image file.
use Rattle.std.proofs.Common.{◌≡◌, ℕ, ◌+◌, ◌*◌, ◌/◌, ◌%◌, ◌<◌, ◌≤◌, Bool, true, false, not, IsTrue, ap, arith}
use Rattle.std.proofs.Math.Nat.{mul-le-mul_right}
use Rattle.zone_image.specs.declared.Geometry.{Geometry}
use Rattle.zone_image.specs.Address.{is_valid, zone_bytes}
use Rattle.zone_image.proofs.BlockLaws.{whole_bytes}
use Rattle.image_backend.specs.Format.{image_bytes, block_at}
use Rattle.power_image.specs.Layout.{zones_at as power_zones_at, image_bytes as power_image_bytes, block_at as power_block_at, descriptor_at, slot_offset}
use Rattle.power_image.specs.declared.descriptor.Descriptor.{Descriptor}

one_more : (n size : ℕ) → (n + 1) * size ≡ n * size + size
one_more n size = omega arith

-- blocks within a zone lie within the file
pub blocks_within : (g : Geometry) (zone block bytes : ℕ) → IsTrue (is_valid g) → zone < g.zones → bytes % g.block ≡ 0 → block + bytes / g.block ≤ g.capacity
    → block_at g zone block + bytes ≤ image_bytes g
blocks_within g zone block bytes valid is_zone whole room =
    let capacity : g.capacity ≤ g.zone_blocks = grind (arith, valid) in
    let blocks : (block + bytes / g.block) * g.block ≤ zone_bytes g = mul-le-mul_right g.block (omega (arith, room, capacity)) in
    let sum : (block + bytes / g.block) * g.block ≡ block * g.block + bytes / g.block * g.block = omega arith in
    let zones : (zone + 1) * zone_bytes g ≤ g.zones * zone_bytes g = mul-le-mul_right (zone_bytes g) (omega (arith, is_zone)) in
    let next : (zone + 1) * zone_bytes g ≡ zone * zone_bytes g + zone_bytes g = one_more zone (zone_bytes g) in
    omega (arith, blocks, sum, zones, next, whole_bytes bytes g.block whole)

-- and within a file of this form
pub blocks_inside : (g : Geometry) (zone block bytes : ℕ) → IsTrue (is_valid g) → zone < g.zones → bytes % g.block ≡ 0 → block + bytes / g.block ≤ g.capacity
    → power_block_at g zone block + bytes ≤ power_image_bytes g
blocks_inside g zone block bytes valid is_zone whole room = omega (arith, blocks_within g zone block bytes valid is_zone whole room)

-- the descriptors lie within the file
pub descriptors_within : (g : Geometry) → 4096 + g.zones * 32 ≤ power_image_bytes g
unfolding power_zones_at
descriptors_within g = omega arith

offset_small : (second : Bool) → slot_offset second ≤ 16
offset_small true = omega arith
offset_small false = omega arith

-- a descriptor lies before the zones
pub descriptor_within : (g : Geometry) (zone : ℕ) → zone < g.zones → descriptor_at zone + 32 ≤ power_zones_at g
unfolding power_zones_at
descriptor_within g zone in_range = omega (arith, in_range)

-- where a piece of the other slot stands
pub put_place : (zone offset at from : ℕ) (d e : Descriptor) → at ≡ descriptor_at zone + slot_offset (not d.second) → d ≡ e → from ≡ offset
    → at + from ≡ descriptor_at zone + (slot_offset (not e.second) + offset)
put_place zone offset at from d e place same is = omega (arith, place, ap (λ (x : Descriptor). slot_offset (not x.second)) same, is)

-- it lies within the descriptor
pub put_within : (d : Descriptor) (offset size : ℕ) → offset + size ≤ 16 → slot_offset (not d.second) + offset + size ≤ 32
put_within d offset size within = omega (arith, offset_small (not d.second), within)

-- The layout of an image file that survives a loss of power: a header, a descriptor of two slots for each zone, and the zones' bytes.
use Rattle.std.specs.Prelude.{ℕ, ◌+◌, ◌*◌, Bool, ◌&&◌, List, [], ◌∷◌, ◌++◌, take, ◌==◌, cond}
use Rattle.std.specs.Int.{next_multiple_of}
use Rattle.std.specs.Str.{bytes_eq}
use Rattle.crc32c_core.specs.Checksum.{crc32c, masked}
use Rattle.zone_image.specs.declared.Geometry.{Geometry}
use Rattle.zone_image.specs.Address.{is_valid, zone_bytes, device_bytes}
use Rattle.image_backend.specs.Format.{u32, u32_at, page, geometry_in}

-- the text with which an image begins, `ZNSIMG02`
abbrev pub magic : List ℕ
magic = 90 ∷ 78 ∷ 83 ∷ 73 ∷ 77 ∷ 71 ∷ 48 ∷ 50 ∷ []

-- the bytes of a slot
abbrev pub slot_size : ℕ
slot_size = 16

-- the bytes of a descriptor, which has two slots
abbrev pub descriptor_size : ℕ
descriptor_size = 32

-- what the checksum of a header covers
abbrev pub header_front : Geometry → List ℕ
header_front g = magic ++ u32 g.block ++ u32 g.zone_blocks ++ u32 g.capacity ++ u32 g.zones ++ u32 g.active_limit

-- the header of an image
unfoldable pub header_bytes : Geometry → List ℕ
header_bytes g = header_front g ++ u32 (masked (crc32c (header_front g)))

-- the text and the checksum of a header are right
unfoldable pub is_marked : List ℕ → Bool
is_marked header = bytes_eq (take 8 header) magic && (u32_at 28 header == masked (crc32c (take 28 header)))

-- a header is right: text and checksum are, and the geometry is valid
abbrev pub is_header : List ℕ → Bool
is_header header = is_marked header && is_valid (geometry_in header)

-- where the zones begin: at the next multiple of a page after the descriptors
unfoldable pub zones_at : Geometry → ℕ
zones_at g = next_multiple_of (page + descriptor_size * g.zones) page

-- the least length of an image file
abbrev pub image_bytes : Geometry → ℕ
image_bytes g = zones_at g + device_bytes g

-- where a block of a zone stands
abbrev pub block_at : Geometry → ℕ → ℕ → ℕ
block_at g zone block = zones_at g + (zone * zone_bytes g + block * g.block)

-- where the descriptor of a zone stands
abbrev pub descriptor_at : ℕ → ℕ
descriptor_at zone = page + descriptor_size * zone

-- where a slot stands in its descriptor: the first one, or the second
abbrev pub slot_offset : Bool → ℕ
slot_offset second = cond second slot_size 0

-- The layout of an image file: a header, a descriptor for each zone, and the zones' bytes.
use Rattle.std.specs.Prelude.{◌-◌, replicate, ℕ, ◌+◌, ◌*◌, Bool, not, ◌&&◌, ◌||◌, List, [], ◌∷◌, ◌++◌, length, take, drop, map, nat_le, ◌==◌, cond}
use Rattle.std.specs.Int.{next_multiple_of}
use Rattle.std.specs.List.{list_all}
use Rattle.std.specs.Str.{bytes_eq}
use Rattle.byteorder.specs.Endian.{little_number, little_bytes}
use Rattle.crc32c_core.specs.Checksum.{crc32c, masked}
use Rattle.image_backend.specs.Contents.{resized, patched}
use Rattle.zone_image.specs.declared.Geometry.{Geometry}
use Rattle.zone_image.specs.declared.ZoneInfo.{ZoneInfo}
use Rattle.zone_image.specs.Address.{is_valid, zone_bytes, device_bytes}
use Rattle.zone_image.specs.Changes.{chunks}
use Rattle.zone_image.specs.Infos.{active_zones}

-- the number of four bytes from an offset on, the lowest first
abbrev pub u32_at : ℕ → List ℕ → ℕ
u32_at offset bytes = little_number 4 (drop offset bytes)

-- the four bytes of a number, the lowest first
abbrev pub u32 : ℕ → List ℕ
u32 n = little_bytes 4 n

-- the bytes of the header
abbrev pub header_size : ℕ
header_size = 32

-- where the descriptors begin; the zones begin at a multiple of as many bytes
abbrev pub page : ℕ
page = 4096

-- the bytes of a descriptor
abbrev pub descriptor_size : ℕ
descriptor_size = 8

-- the text with which an image begins, `ZNSIMG01`
abbrev pub magic : List ℕ
magic = 90 ∷ 78 ∷ 83 ∷ 73 ∷ 77 ∷ 71 ∷ 48 ∷ 49 ∷ []

-- what the checksum of a header covers
abbrev pub header_front : Geometry → List ℕ
header_front g = magic ++ u32 g.block ++ u32 g.zone_blocks ++ u32 g.capacity ++ u32 g.zones ++ u32 g.active_limit

-- the header of an image
unfoldable pub header_bytes : Geometry → List ℕ
header_bytes g = header_front g ++ u32 (masked (crc32c (header_front g)))

-- the geometry of a header
unfoldable pub geometry_in : List ℕ → Geometry
geometry_in header = record {
  block = u32_at 8 header;
  zone_blocks = u32_at 12 header;
  capacity = u32_at 16 header;
  zones = u32_at 20 header;
  active_limit = u32_at 24 header;
}

-- the text and the checksum of a header are right
unfoldable pub is_marked : List ℕ → Bool
is_marked header = bytes_eq (take 8 header) magic && (u32_at 28 header == masked (crc32c (take 28 header)))

-- a header is right: text and checksum are, and the geometry is valid
abbrev pub is_header : List ℕ → Bool
is_header header = is_marked header && is_valid (geometry_in header)

-- where the zones begin: at the next multiple of a page after the descriptors
unfoldable pub zones_at : Geometry → ℕ
zones_at g = next_multiple_of (page + descriptor_size * g.zones) page

-- the least length of an image file
abbrev pub image_bytes : Geometry → ℕ
image_bytes g = zones_at g + device_bytes g

-- where a block of a zone stands
abbrev pub block_at : Geometry → ℕ → ℕ → ℕ
block_at g zone block = zones_at g + (zone * zone_bytes g + block * g.block)

-- where the descriptor of a zone stands
abbrev pub descriptor_at : ℕ → ℕ
descriptor_at zone = page + descriptor_size * zone

-- the descriptor of a zone
unfoldable pub descriptor_bytes : ZoneInfo → List ℕ
descriptor_bytes info = u32 info.written ++ u32 (cond info.sealed 1 0)

-- what a descriptor says
unfoldable pub info_in : List ℕ → ZoneInfo
info_in bytes = record { written = u32_at 0 bytes; sealed = u32_at 4 bytes == 1 }

-- at most as many blocks as the capacity, a seal of 0 or 1, and a seal where the zone is full
unfoldable pub is_descriptor : Geometry → List ℕ → Bool
is_descriptor g bytes = nat_le (u32_at 0 bytes) g.capacity && nat_le (u32_at 4 bytes) 1 && (not (u32_at 0 bytes == g.capacity) || (u32_at 4 bytes == 1))

-- the geometry of a file's header
abbrev pub geometry_of : List ℕ → Geometry
geometry_of bytes = geometry_in (take header_size bytes)

-- the descriptors of a file
abbrev pub descriptors_in : Geometry → List ℕ → List (List ℕ)
descriptors_in g bytes = chunks descriptor_size g.zones (take (g.zones * descriptor_size) (drop page bytes))

-- descriptors are possible, and so is the number of active zones
abbrev pub are_possible : Geometry → List (List ℕ) → Bool
are_possible g descriptors = list_all (is_descriptor g) descriptors && nat_le (active_zones (map info_in descriptors)) g.active_limit

-- the bytes of a file begin with a right header and are as many as it says
abbrev pub has_header : List ℕ → Bool
has_header bytes = nat_le page (length bytes) && is_header (take header_size bytes) && nat_le (image_bytes (geometry_of bytes)) (length bytes)

-- the bytes of a file hold an image: header, length and descriptors are right
abbrev pub is_image : List ℕ → Bool
is_image bytes = has_header bytes && are_possible (geometry_of bytes) (descriptors_in (geometry_of bytes) bytes)

-- the bytes of a file after an image was made in place of these: its length, zeros from the header to the zones, and the header
abbrev pub new_image : Geometry → List ℕ → List ℕ
new_image g bytes = patched 0 (header_bytes g) (patched header_size (replicate (zones_at g - header_size) 0) (resized (image_bytes g) bytes))

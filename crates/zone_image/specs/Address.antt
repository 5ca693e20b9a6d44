-- The shape of a zoned device, and its byte addresses.
use Rattle.std.specs.Prelude.{◌≡◌, ℕ, ◌+◌, ◌*◌, ◌/◌, ◌%◌, ◌^◌, ◌<◌, Bool, ◌&&◌, ◌||◌, nat_lt, nat_le, ◌==◌}
use Rattle.zone_image.specs.declared.Geometry.{Geometry}
use Rattle.zone_image.specs.declared.Place.{Place}

-- a geometry within its limits
abbrev pub is_valid : Geometry → Bool
is_valid g =
    ((g.block == 512) || (g.block == 4096))
    && nat_le 8 g.capacity && nat_le g.capacity g.zone_blocks
    && nat_le 32 g.zones && nat_le g.zones 65536
    && nat_le 3 g.active_limit && nat_le g.active_limit g.zones
    && nat_lt (g.zone_blocks * g.block) (2 ^ 32)

-- bytes from the start of one zone to the start of the next
abbrev pub zone_bytes : Geometry → ℕ
zone_bytes g = g.zone_blocks * g.block

-- bytes of all zones
abbrev pub device_bytes : Geometry → ℕ
device_bytes g = g.zones * zone_bytes g

-- the address of an offset in a zone
abbrev pub address_of : Geometry → ℕ → ℕ → ℕ
address_of g zone offset = zone * zone_bytes g + offset

-- the zone of an address; its offset there is the remainder
abbrev pub zone_of : Geometry → ℕ → ℕ
zone_of g address = address / zone_bytes g

-- the offset of an address in its zone
abbrev pub offset_of : Geometry → ℕ → ℕ
offset_of g address = address % zone_bytes g

-- the place has this address, and lies in a zone of the device
pub record IsPlaceOf (g : Geometry) (address : ℕ) (p : Place) : Type 0 where
  pub zone : p.zone ≡ zone_of g address
  pub offset : p.offset ≡ offset_of g address
  pub inverse : address_of g p.zone p.offset ≡ address
  pub is_zone : p.zone < g.zones
  pub within : p.offset < zone_bytes g

-- the number of bytes of a zone, which has at least 8 blocks and less than 2 ^ 32 bytes
pub record IsZoneBytes (g : Geometry) (size : ℕ) : Type 0 where
  pub exact : size ≡ zone_bytes g
  pub some : 0 < size
  pub small : size < 2 ^ 32

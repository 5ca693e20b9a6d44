-- The image that buffers in memory hold.
use Rattle.std.specs.Prelude.{◌≡◌, ℕ, ◌*◌, ◌≤◌, length, List, map, All}
use Rattle.std.specs.Vec.{vec_capacity}
use Rattle.zone_image.specs.declared.Geometry.{Geometry}
use Rattle.zone_image.specs.Image.{Zone, Image}
use Rattle.zone_image.specs.Infos.{IsValidImage}
use Rattle.zone_image.specs.Changes.{chunks}
use Rattle.zoned_device.specs.declared.zone_buffer.ZoneBuffer.{ZoneBuffer}

-- the zone of a buffer
abbrev pub zone_in : ℕ → ZoneBuffer → Zone
zone_in block b = record { blocks = chunks block b.written b.bytes.items; kept = b.kept; sealed = b.sealed }

-- the buffer holds whole blocks, at most the capacity, and has the memory for as many
pub record IsBuffer (g : Geometry) (b : ZoneBuffer) : Type 0 where
  pub whole : length b.bytes.items ≡ b.written * g.block
  pub room : g.capacity * g.block ≤ vec_capacity b.bytes
  pub limit : b.written ≤ g.capacity
  pub kept : b.kept ≤ b.written

-- a buffer whose blocks are all durable
abbrev pub synced_buffer : ZoneBuffer → ZoneBuffer
synced_buffer b = record b { kept = b.written }

-- the image of some buffers
abbrev pub image_in : Geometry → List ZoneBuffer → Image
image_in g buffers = record { geometry = g; zones = map (zone_in g.block) buffers }

-- buffers of a device that may be
pub record IsMemory (g : Geometry) (buffers : List ZoneBuffer) : Type 0 where
  pub valid : IsValidImage (image_in g buffers)
  pub buffers_are : All (IsBuffer g) buffers

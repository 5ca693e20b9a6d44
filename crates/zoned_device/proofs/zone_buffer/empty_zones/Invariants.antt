use Rattle.std.proofs.Common.{◌≡◌, map, replicate}
use Rattle.std.specs.List.{All}
use Rattle.zone_image.specs.Image.{no_zone}
use Rattle.zoned_device.specs.Memory.{zone_in, IsBuffer}
use Rattle.zoned_device.proofs.zone_buffer.empty_zones.Given as goal

-- so many empty zones
abbrev pub invariant-loop-zone : goal.invariant-loop-zone
invariant-loop-zone l = record {
  buffers : All (IsBuffer l.geometry) l.zones.items;
  empty : map (zone_in l.geometry.block) l.zones.items ≡ replicate l._zone no_zone;
}

use Rattle.std.proofs.Common.{◌≡◌, map}
use Rattle.std.specs.List.{All}
use Rattle.zoned_device.specs.Memory.{zone_in, IsBuffer}
use Rattle.zoned_device.proofs.ZoneLists.{crash_first}
use Rattle.zoned_device.proofs.zone_buffer.crash_zones.Given as goal

-- the first zones are crashed
abbrev pub invariant-loop-i : goal.invariant-loop-i
invariant-loop-i l = record {
  buffers : All (IsBuffer l.geometry) l.zones;
  done : map (zone_in l.geometry.block) l.zones ≡ crash_first l.i (map (zone_in l.geometry.block) l.initial.zones) l.keep;
}

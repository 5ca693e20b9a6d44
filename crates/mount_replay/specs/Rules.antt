-- Where extents and recovery points may lie, by the written numbers of the zones.
use Rattle.std.specs.Prelude.{◌≡◌, ℕ, ◌+◌, ◌*◌, ◌%◌, ◌<◌, Bool, true, not, ◌&&◌, ◌||◌, List, nat_lt, nat_le, ◌==◌}
use Rattle.zone_image.specs.declared.Geometry.{Geometry}
use Rattle.zone_image.specs.declared.ZoneInfo.{ZoneInfo}
use Rattle.zone_image.specs.Image.{zone_of, offset_of}
use Rattle.zone_image.specs.Infos.{info_at}
use Rattle.record_model.specs.declared.types.Extent.{Extent}
use Rattle.record_model.specs.declared.types.FileEntry.{FileEntry}
use Rattle.log_model.specs.Frames.{no_active}

-- within the written part of one data zone
abbrev pub is_written_in : Geometry → List ZoneInfo → Extent → Bool
is_written_in g infos x =
    nat_le 3 (zone_of g x.start) && nat_lt (zone_of g x.start) g.zones
    && nat_le (offset_of g x.start + x.len) ((info_at infos (zone_of g x.start)).written * g.block)

-- it has a byte, and lies there
pub record IsWrittenExtent (g : Geometry) (infos : List ZoneInfo) (x : Extent) : Type 0 where
  pub some : 0 < x.len
  pub written : is_written_in g infos x ≡ true

-- the start of a block of a data zone, from the first to the one behind the last
abbrev pub is_recovery_point_in : Geometry → List ZoneInfo → ℕ → Bool
is_recovery_point_in g infos start =
    nat_le 3 (zone_of g start) && nat_lt (zone_of g start) g.zones
    && (offset_of g start % g.block == 0)
    && nat_le (offset_of g start) ((info_at infos (zone_of g start)).written * g.block)

-- the file has a recovery point, and it is one
abbrev pub is_recovered_in : Geometry → List ZoneInfo → FileEntry → Bool
is_recovered_in g infos e = not (e.active == no_active) && is_recovery_point_in g infos e.active

-- a file whose recovery point is one, if it has any
abbrev pub has_point_in : Geometry → List ZoneInfo → FileEntry → Bool
has_point_in g infos e = (e.active == no_active) || is_recovery_point_in g infos e.active

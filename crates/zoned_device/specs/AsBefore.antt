-- A call without effect.
use Rattle.std.specs.Prelude.{◌≡◌, ◌↔◌, List}
use Rattle.zone_image.specs.declared.Geometry.{Geometry}
use Rattle.zone_image.specs.declared.ZoneInfo.{ZoneInfo}
use Rattle.zone_image.specs.Image.{Image}

-- the device knows and tells what it knew and told
pub record IsAsBefore {D : Type 0} (known : D → Type 0) (geometry : D → Geometry) (infos : D → List ZoneInfo) (tells : Type 0) (absent : D → Type 0) (image : D → Image) (old new : D) : Type 0 where
  pub still_known : known old → known new
  pub same_geometry : geometry new ≡ geometry old
  pub same_infos : infos new ≡ infos old
  pub same_image : tells → image new ≡ image old
  pub same_absent : tells → absent new ↔ absent old

-- A call that only reads a device.
use Rattle.std.specs.Prelude.{◌≡◌, ℕ, List}
use Rattle.zone_image.specs.declared.Geometry.{Geometry}
use Rattle.zone_image.specs.declared.ZoneInfo.{ZoneInfo}
use Rattle.zone_image.specs.Image.{Image, IsCrash}
use Rattle.zone_image.specs.Moments.{LeavesOnly}

-- The device tells what it told, no change failed, and it passed the image that stands and no other.
pub record OnlyReads {D : Type 0} (known : D → Type 0) (geometry : D → Geometry) (infos : D → List ZoneInfo) (tells : Type 0) (image : D → Image) (tick : D → ℕ) (since : D → ℕ → Image → Type 0) (failed_changes : D → ℕ) (old new : D) : Type 0 where
  pub still_known : known new
  pub same_geometry : geometry new ≡ geometry old
  pub same_infos : infos new ≡ infos old
  pub same_image : tells → image new ≡ image old
  pub passes : LeavesOnly tick since old new (IsCrash (image old))
  pub same_changes : failed_changes new ≡ failed_changes old

-- What a device in memory holds that never fails.
use Rattle.std.specs.Prelude.{ℕ}
use Rattle.zone_image.specs.Image.{Image}

-- the image that stands, and the tick
pub record SureState : Type 0 where
  pub image : Image
  pub tick : ℕ

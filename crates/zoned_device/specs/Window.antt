-- How much a device is asked for at once.
use Rattle.std.specs.Prelude.{ℕ, min}
use Rattle.zone_image.specs.declared.Geometry.{Geometry}

-- the most blocks that one read may ask for
abbrev pub window : Geometry → ℕ
window g = min g.capacity 64

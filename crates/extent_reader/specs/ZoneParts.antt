-- Bytes of a zone.
use Rattle.std.specs.Prelude.{ℕ, List, take, drop}
use Rattle.std.specs.List.{concat}
use Rattle.zone_image.specs.Image.{Image, zone_at}

-- so many bytes of a zone, from an offset on
abbrev pub zone_part : Image → ℕ → ℕ → ℕ → List ℕ
zone_part i zone offset count = take count (drop offset (concat (zone_at i zone).blocks))

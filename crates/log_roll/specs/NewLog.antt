-- A log that is begun in an empty zone.
use Rattle.std.specs.Prelude.{ℕ, List}
use Rattle.zone_image.specs.declared.Geometry.{Geometry}
use Rattle.zone_image.specs.declared.ZoneInfo.{ZoneInfo}
use Rattle.zone_image.specs.Image.{Image}
use Rattle.zone_image.specs.Changes.{appended}
use Rattle.zone_image.specs.Infos.{infos_appended}
use Rattle.zone_image.specs.Moments.{PassedByAppend}
use Rattle.zoned_device.specs.DeviceSteps.{Then}

-- the numbers and seals after two appends of so many blocks to a zone
abbrev pub infos_begun : Geometry → List ZoneInfo → ℕ → ℕ → ℕ → List ZoneInfo
infos_begun g infos zone first second = infos_appended g (infos_appended g infos zone first) zone second

-- the image after these two appends to a zone
abbrev pub begun : ℕ → List (List ℕ) → List (List ℕ) → Image → Image
begun zone first second i = appended (appended i zone first) zone second

-- what these two appends pass
abbrev pub PassedByNewLog : ℕ → List (List ℕ) → List (List ℕ) → Image → Image → Type 0
PassedByNewLog zone first second =
    Then (λ i. PassedByAppend i zone first) (λ i. appended i zone first) (λ i. PassedByAppend i zone second)

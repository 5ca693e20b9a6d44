-- What calls that write metadata zones alone keep of the data zones.
use Rattle.std.specs.Prelude.{◌≡◌, ℕ, ◌≤◌, List, drop}
use Rattle.zone_image.specs.declared.ZoneInfo.{ZoneInfo}
use Rattle.zone_image.specs.Image.{Image, zone_at}

-- the data zones have the numbers and seals that they had, and their blocks
pub record KeepsData {D : Type 0} (infos : D → List ZoneInfo) (tells : Type 0) (image : D → Image) (old new : D) : Type 0 where
  pub numbers : drop 3 (infos new) ≡ drop 3 (infos old)
  pub blocks : tells → (n : ℕ) → 3 ≤ n → (zone_at (image new) n).blocks ≡ (zone_at (image old) n).blocks

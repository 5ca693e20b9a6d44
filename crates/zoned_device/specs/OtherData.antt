-- What calls that change some data zones keep of the others.
use Rattle.std.specs.Prelude.{◌≡◌, ℕ, ◌≤◌, Bool, false, List}
use Rattle.zone_image.specs.declared.ZoneInfo.{ZoneInfo}
use Rattle.zone_image.specs.Image.{Image, zone_at}
use Rattle.zone_image.specs.Infos.{info_at}

-- the data zones in which nothing changed have the number and the seal that they had, and their blocks
pub record KeepsOtherData {D : Type 0} (infos : D → List ZoneInfo) (tells : Type 0) (image : D → Image) (changed : ℕ → Bool) (old new : D) : Type 0 where
  pub numbers : (n : ℕ) → 3 ≤ n → changed n ≡ false → info_at (infos new) n ≡ info_at (infos old) n
  pub blocks : tells → (n : ℕ) → 3 ≤ n → changed n ≡ false → (zone_at (image new) n).blocks ≡ (zone_at (image old) n).blocks

-- the data zones have their blocks and their numbers of them, and all but some their seals
pub record KeepsBlocks {D : Type 0} (infos : D → List ZoneInfo) (tells : Type 0) (image : D → Image) (sealed : ℕ → Bool) (old new : D) : Type 0 where
  pub written : (n : ℕ) → 3 ≤ n → (info_at (infos new) n).written ≡ (info_at (infos old) n).written
  pub seals : (n : ℕ) → 3 ≤ n → sealed n ≡ false → (info_at (infos new) n).sealed ≡ (info_at (infos old) n).sealed
  pub blocks : tells → (n : ℕ) → 3 ≤ n → (zone_at (image new) n).blocks ≡ (zone_at (image old) n).blocks

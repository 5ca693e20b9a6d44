-- What a part of the work on a device leaves of it, and which images it passes on the way.
use Rattle.std.specs.Prelude.{◌≡◌, ℕ, ◌⊎◌}
use Rattle.zone_image.specs.declared.Geometry.{Geometry}
use Rattle.zone_image.specs.Image.{Image, IsCrash}
use Rattle.zone_image.specs.Counts.{next_count, HasCause}
use Rattle.zone_image.specs.Moments.{LeavesOnly}

-- a count stays as it was, or goes up by one where the work failed
abbrev pub MayCount : ℕ → ℕ → Type 0 → Type 0
MayCount before now Fault = (now ≡ before) ⊎ (Fault × (now ≡ next_count before))

-- The device is still known and has its geometry, its counts say whether it failed, and what a crash leaves, on the way and of what stands, has P.
pub record ChangesDevice {D : Type 0} (known : D → Type 0) (geometry : D → Geometry) (tells : Type 0) (image : D → Image) (tick : D → ℕ) (since : D → ℕ → Image → Type 0) (faults failed_changes : D → ℕ) (old new : D) (Fault : Type 0) (P : Image → Type 0) : Type 0 where
  pub still_known : known new
  pub same_geometry : geometry new ≡ geometry old
  pub passes : LeavesOnly tick since old new P
  pub stands : tells → (j : Image) → IsCrash (image new) j → P j
  pub cause : HasCause (faults old) (faults new) Fault
  pub changes : MayCount (failed_changes old) (failed_changes new) Fault

-- the images that one part of the work passes, and then those that the next passes, which begins at what the first one makes
abbrev pub Then : (Image → Image → Type 0) → (Image → Image) → (Image → Image → Type 0) → Image → Image → Type 0
Then First made Second i j = First i j ⊎ Second (made i) j

-- The images that a device passes, and what a crash at some moment of a call may leave.
use Rattle.std.specs.Prelude.{ℕ, ◌≤◌, ◌⊎◌, List, length, take}
use Rattle.zone_image.specs.Image.{Image, IsCrash}
use Rattle.zone_image.specs.Changes.{appended, finished, emptied}

-- a crash within an append finds the first blocks of it written, some number of them
pub record PassedByAppend (i : Image) (zone : ℕ) (added : List (List ℕ)) (j : Image) : Type 0 where
  pub count : ℕ
  pub some : count ≤ length added
  pub crash : IsCrash (appended i zone (take count added)) j

-- a crash within a finish finds it done or not
abbrev pub PassedByFinish : Image → ℕ → Image → Type 0
PassedByFinish i zone j = IsCrash i j ⊎ IsCrash (finished i zone) j

-- a crash within a reset finds it done or not
abbrev pub PassedByReset : Image → ℕ → Image → Type 0
PassedByReset i zone j = IsCrash i j ⊎ IsCrash (emptied i zone) j

-- From old to new the device passed only images whose crashes have P.
-- What a crash might have left since an earlier tick, it might have left then already or since old.
pub record LeavesOnly {D : Type 0} (tick : D → ℕ) (since : D → ℕ → Image → Type 0) (old new : D) (P : Image → Type 0) : Type 0 where
  pub later : tick old ≤ tick new
  pub each : (j : Image) → since new (tick old) j → P j
  pub splits : (t : ℕ) (j : Image) → t ≤ tick old → since new t j → since old t j ⊎ since new (tick old) j
  pub keeps : (t : ℕ) (j : Image) → t ≤ tick old → since old t j ⊎ since new (tick old) j → since new t j

-- what every device promises of its moments; one that tells none has no image in since
pub record KeepsMoments {D : Type 0} (tells : Type 0) (image : D → Image) (tick : D → ℕ) (since : D → ℕ → Image → Type 0) : Type 0 where
  pub earlier : (d : D) (t u : ℕ) (j : Image) → t ≤ u → since d u j → since d t j
  pub since_now : (d : D) (j : Image) → since d (tick d) j → IsCrash (image d) j
  pub since_told : (d : D) (t : ℕ) (j : Image) → since d t j → tells

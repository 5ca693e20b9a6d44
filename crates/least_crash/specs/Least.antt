-- The crash that loses the most: it lies within every other one.
use Rattle.std.specs.Prelude.{ℕ, ◌<◌, []}
use mathlib.Core.List.{IsPrefix}
use Rattle.zone_image.specs.Image.{Image, IsCrash}
use Rattle.zone_image.specs.Changes.{crashed}
use Rattle.log_model.specs.Frames.{frames_at}
use Rattle.log_model.specs.MountLaws.{KeepsFronts}

-- what a crash leaves that keeps the durable blocks alone
abbrev pub least_crash : Image → Image
least_crash i = crashed i []

-- each crash keeps the durable blocks
abbrev pub LeastIsWithin : Type 0
LeastIsWithin = (i j : Image) → IsCrash i j → KeepsFronts j (least_crash i)

-- the frames that a crash leaves: those in durable blocks, and at most those that stood
pub record FramesBetween (i j : Image) (start : ℕ) : Type 0 where
  pub least : IsPrefix (frames_at (least_crash i) start) (frames_at j start)
  pub most : IsPrefix (frames_at j start) (frames_at i start)

abbrev pub CrashFramesBetween : Type 0
CrashFramesBetween = (i j : Image) (start : ℕ) → 0 < i.geometry.block → IsCrash i j → FramesBetween i j start

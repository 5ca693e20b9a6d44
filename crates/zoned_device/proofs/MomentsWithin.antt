-- What is left of a call, by what a crash since its begin might have left.
use Rattle.std.proofs.Common.{ℕ}
use Rattle.zone_image.specs.Image.{Image}
use Rattle.zone_image.specs.Moments.{LeavesOnly}

-- D is the device's type, with its members: a call that leaves only what has P, and of which what was left since its begin has R
pub leaves_within : {D : Type 0} {tick : D → ℕ} {since : D → ℕ → Image → Type 0} {a b : D} {P : Image → Type 0} (R : Image → Type 0)
    → LeavesOnly tick since a b P → ((j : Image) → since b (tick a) j → R j) → LeavesOnly tick since a b R
leaves_within R part left = record {
  later = part.later;
  each = left;
  splits = part.splits;
  keeps = part.keeps;
}

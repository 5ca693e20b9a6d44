-- Frames that fill their blocks, and one more frame behind them.
use Rattle.std.specs.Prelude.{◌≡◌, ℕ, zero, suc, ◌+◌, ◌-◌, ◌*◌, ◌^◌, ◌<◌, ◌≤◌, Bool, true, false, not, ◌&&◌, ◌||◌, List, [], ◌∷◌, ◌++◌, length, take, drop, replicate, nat_lt, ◌==◌}
use Rattle.std.specs.Int.{w64, from_le_bytes, to_le_bytes}
use Rattle.zone_image.specs.Changes.{chunks}
use Rattle.log_model.specs.Frames.{frame_blocks, frames_within}

-- a frame of this length fits, and those behind it fill what is left
abbrev pub fill_then : ℕ → ℕ → ℕ → (ℕ → Bool) → Bool
fill_then block count len others = not ((len == 0) || nat_lt count (frame_blocks block len)) && others (frame_blocks block len)

-- the frames in these blocks leave none over; each takes a block, so k bounds them
abbrev pub fill_within : ℕ → ℕ → List (List ℕ) → Bool
fill_within k block [] = true
fill_within zero block (b ∷ bs) = false
fill_within (suc k) block (b ∷ bs) = fill_then block (length (b ∷ bs)) (from_le_bytes w64 (take 8 b)) (λ n. fill_within k block (drop n (b ∷ bs)))

-- behind frames that fill their blocks the walk goes on
abbrev pub FramesGoOn : Type 0
FramesGoOn = (block at : ℕ) (front rest : List (List ℕ)) → 0 < block → fill_within (length front) block front ≡ true
    → frames_within (length (front ++ rest)) block at (front ++ rest)
    ≡ frames_within (length front) block at front ++ frames_within (length rest) block (at + length front * block) rest

-- the blocks of a frame: its length, its bytes, and zeros
abbrev pub frame_of : ℕ → List ℕ → List (List ℕ)
frame_of block bytes =
    chunks block (frame_blocks block (length bytes)) (to_le_bytes w64 (length bytes) ++ bytes ++ replicate (frame_blocks block (length bytes) * block - (8 + length bytes)) 0)

-- bytes that a frame can have
pub record IsFrameOf (block : ℕ) (bytes : List ℕ) : Type 0 where
  pub head : 8 ≤ block
  pub some : 0 < length bytes
  pub short : length bytes < 2 ^ 64

-- a frame is found as one extent
abbrev pub FrameIsFound : Type 0
FrameIsFound = (block at : ℕ) (bytes : List ℕ) → IsFrameOf block bytes
    → frames_within (length (frame_of block bytes)) block at (frame_of block bytes) ≡ (record { start = at + 8; len = length bytes }) ∷ []

-- a part of it isn't found
abbrev pub PartIsNotFound : Type 0
PartIsNotFound = (block at k : ℕ) (bytes : List ℕ) → IsFrameOf block bytes → k < frame_blocks block (length bytes)
    → frames_within (length (take k (frame_of block bytes))) block at (take k (frame_of block bytes)) ≡ []

-- The frames of a zone, one by one.
use Rattle.std.specs.Prelude.{ℕ, ◌+◌, ◌*◌, ◌/◌, ◌<◌, ◌≤◌, ◌||◌, List, [], ◌∷◌, length, take, Option, Some, None, nat_lt, ◌==◌, if◌then◌else◌}
use Rattle.std.specs.Int.{w64, from_le_bytes}
use Rattle.record_model.specs.declared.types.Extent.{Extent}
use Rattle.log_model.specs.Frames.{frame_blocks, frames_within}
use Rattle.mount_replay.specs.declared.frames.Frame.{Frame}
use Rattle.mount_replay.specs.declared.frames.FrameStart.{FrameStart}
use Rattle.zone_image.specs.declared.Geometry.{Geometry}
use Rattle.zone_image.specs.declared.ZoneInfo.{ZoneInfo}
use Rattle.zone_image.specs.Image.{zone_of, offset_of}
use Rattle.zone_image.specs.Infos.{info_at}

-- the frame of this length, where it fits so many blocks
abbrev pub frame_of : ℕ → ℕ → ℕ → Option Frame
frame_of block left len = if (len == 0) || nat_lt left (frame_blocks block len) then None else Some (record { len = len; blocks = frame_blocks block len })

-- the frame that begins with the first of these blocks
abbrev pub frame_in : ℕ → List (List ℕ) → Option Frame
frame_in block [] = None
frame_in block (b ∷ bs) = frame_of block (length (b ∷ bs)) (from_le_bytes w64 (take 8 b))

-- a frame has a byte and a block, room for its bytes and their number, and not more blocks than are left
pub record IsFrameWithin (block left : ℕ) (f : Frame) : Type 0 where
  pub some : 0 < f.len
  pub takes : 0 < f.blocks
  pub holds : 8 + f.len ≤ f.blocks * block
  pub within : f.blocks ≤ left

-- the frames in these blocks, of which the first has this address
abbrev pub frames_from : ℕ → ℕ → List (List ℕ) → List Extent
frames_from block at blocks = frames_within (length blocks) block at blocks

-- where a walk from a recovery point begins
abbrev pub frame_start_of : Geometry → List ZoneInfo → ℕ → FrameStart
frame_start_of g infos start = record {
  zone = zone_of g start;
  first = offset_of g start / g.block;
  start = start;
  written = (info_at infos (zone_of g start)).written;
}

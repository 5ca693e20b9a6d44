-- What the mounting of an image rests on.
use Rattle.std.specs.Prelude.{◌≡◌, ℕ, ◌<◌, true, false, List, ◌++◌, length, None, ◌==◌}
use Rattle.std.specs.List.{AllByRecursion, list_all}
use mathlib.Core.List.{IsPrefix}
use Rattle.zone_image.specs.Image.{Image, zone_at, zone_of}
use Rattle.record_model.specs.declared.types.Extent.{Extent}
use Rattle.record_model.specs.declared.types.FileEntry.{FileEntry}
use Rattle.log_model.specs.LogSelection.{selected_log}
use Rattle.log_model.specs.FileTable.{Table}
use Rattle.log_model.specs.Frames.{no_active, extent_bytes, frames_within, frames_at}
use Rattle.log_model.specs.Mounted.{table_in, mounted_in, is_written, all_extents, has_valid_recovery_point, broken_rule}

-- two images of one geometry with the same blocks; their seals and their durable blocks may differ
pub record HaveSameBlocks (i j : Image) : Type 0 where
  pub geometry : i.geometry ≡ j.geometry
  pub blocks : (n : ℕ) → (zone_at i n).blocks ≡ (zone_at j n).blocks

-- they have one log, one table and one tree
pub record MountAlike (i j : Image) : Type 0 where
  pub log : selected_log i ≡ selected_log j
  pub table : table_in i ≡ table_in j
  pub tree : mounted_in i ≡ mounted_in j

-- a mount reads blocks only
abbrev pub MountReadsBlocks : Type 0
MountReadsBlocks = (i j : Image) → HaveSameBlocks i j → MountAlike i j

-- the first blocks have the first of the frames
abbrev pub FrontHasFirstFrames : Type 0
FrontHasFirstFrames = (block at : ℕ) (front rest : List (List ℕ)) → 0 < block
    → IsPrefix (frames_within (length front) block at front) (frames_within (length (front ++ rest)) block at (front ++ rest))

-- where a zone keeps its first blocks, the frames from an address in it are the first of those that were there
abbrev pub FramesStayInOrder : Type 0
FramesStayInOrder = (i j : Image) (start : ℕ) → 0 < i.geometry.block → j.geometry ≡ i.geometry
    → IsPrefix (zone_at j (zone_of i.geometry start)).blocks (zone_at i (zone_of i.geometry start)).blocks
    → IsPrefix (frames_at j start) (frames_at i start)

-- an image of the same geometry, of whose zones each keeps its first blocks
pub record KeepsFronts (i j : Image) : Type 0 where
  pub geometry : j.geometry ≡ i.geometry
  pub fronts : (n : ℕ) → IsPrefix (zone_at j n).blocks (zone_at i n).blocks

-- only sparse files have a recovery point
abbrev pub SparseAlone : FileEntry → Type 0
SparseAlone e = (e.active == no_active) ≡ false → e.sparse ≡ true

-- an extent within the blocks that are kept has its bytes still; a block has the size of a block
abbrev pub KeptExtentStays : Type 0
KeptExtentStays = (i j : Image) (x : Extent) → KeepsFronts i j → AllByRecursion (λ b. length b ≡ i.geometry.block) (zone_at j (zone_of i.geometry x.start)).blocks
    → is_written j x ≡ true → (is_written i x ≡ true) × (extent_bytes j x ≡ extent_bytes i x)

-- a table that breaks no rule breaks none where its extents and its recovery points are kept
abbrev pub KeptTableStays : Type 0
KeptTableStays = (i j : Image) (es : Table) → KeepsFronts i j → 0 < i.geometry.block → AllByRecursion SparseAlone es
    → list_all (is_written j) (all_extents es) ≡ true → list_all (has_valid_recovery_point j) es ≡ true
    → broken_rule i es ≡ None → broken_rule j es ≡ None

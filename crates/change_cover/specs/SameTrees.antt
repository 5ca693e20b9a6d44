-- Images that mount to the same tree.
use Rattle.std.specs.Prelude.{◌≡◌, ℕ, ◌≤◌, Bool, false}
use Rattle.zone_image.specs.Image.{Image, IsCrash, zone_at}
use Rattle.log_model.specs.FileTree.{Tree}
use Rattle.log_model.specs.Mounted.{MountsTo}
use Rattle.fs_model.specs.FsState.{FsState, recorded}
use Rattle.fs_model.specs.CrashClauses.{shown_tree}
use Rattle.crash_cover.specs.SameData.{Avoids}
use Rattle.change_cover.specs.Rests.{Stands}

-- j mounts to the tree that i mounts to
abbrev pub MountsTheSame : Image → Image → Type 0
MountsTheSame i j = (t : Tree) → MountsTo i t → MountsTo j t

-- the same geometry, and the same blocks in each data zone in which nothing changed
pub record KeepsBlocks (changed : ℕ → Bool) (i j : Image) : Type 0 where
  pub geometry : j.geometry ≡ i.geometry
  pub blocks : (n : ℕ) → 3 ≤ n → changed n ≡ false → (zone_at j n).blocks ≡ (zone_at i n).blocks

-- a crash mounts to the same tree
abbrev pub CrashMountsTheSame : Type 0
CrashMountsTheSame = (i j : Image) (s : FsState) → Stands i s → IsCrash i j → MountsTheSame i j

-- the same rows show the same tree where the blocks are kept that they lie in
abbrev pub KeptBlocksShowTheSame : Type 0
KeptBlocksShowTheSame = (changed : ℕ → Bool) (i j : Image) (s next : FsState) → Stands i s → Stands j next → next.rows ≡ s.rows → KeepsBlocks changed i j
    → Avoids changed i.geometry (recorded s) → shown_tree j next ≡ shown_tree i s

-- and so the images mount to the same tree
abbrev pub KeptBlocksMountTheSame : Type 0
KeptBlocksMountTheSame = (changed : ℕ → Bool) (i j : Image) (s next : FsState) → Stands i s → Stands j next → next.rows ≡ s.rows → KeepsBlocks changed i j
    → Avoids changed i.geometry (recorded s) → MountsTheSame i j

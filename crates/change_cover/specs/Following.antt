-- A state that stands, and what it becomes while data zones are reset one after another.
use Rattle.std.specs.Prelude.{◌≡◌, ℕ, [], ◌∷◌, ◌==◌}
use Rattle.zone_image.specs.Image.{Image}
use Rattle.zone_image.specs.Changes.{emptied}
use Rattle.fs_model.specs.FsState.{FsState, recorded}
use Rattle.fs_model.specs.CrashClauses.{shown_tree}
use Rattle.log_store.specs.Resetting.{RestsWithoutZone}
use Rattle.change_cover.specs.Rests.{Becomes, Stands}
use Rattle.change_cover.specs.Left.{IsLeftOf}
use Rattle.change_cover.specs.Resets.{HasNothingIn}
use Rattle.change_cover.specs.SameTrees.{KeepsBlocks, MountsTheSame}

-- the next state stands with the same rows, which show the same tree, and its image mounts to the same
pub record Follows (i j : Image) (s next : FsState) : Type 0 where
  pub stands : Stands j next
  pub rows : next.rows ≡ s.rows
  pub log : next.log ≡ s.log
  pub tree : shown_tree j next ≡ shown_tree i s
  pub mounts : MountsTheSame i j

-- nothing is reset yet
abbrev pub FollowsItself : Type 0
FollowsItself = (i : Image) (s : FsState) → Stands i s → Follows i i s s

-- a reset keeps the other zones
abbrev pub EmptiedKeepsBlocks : Type 0
EmptiedKeepsBlocks = (i : Image) (zone : ℕ) → KeepsBlocks (λ n. n == zone) i (emptied i zone)

-- one more zone in which the table has nothing is reset
abbrev pub ResetFollows : Type 0
ResetFollows = (i j k : Image) (s t next : FsState) (zone : ℕ) → Follows i j s t → HasNothingIn zone j.geometry (recorded t) → Becomes t.log t.rows next
    → RestsWithoutZone zone j k → KeepsBlocks (λ n. n == zone) j k → Follows i k s next

-- what is left of the tree then is left of the tree at first
abbrev pub FollowerLeaves : Type 0
FollowerLeaves = (i j k : Image) (s t : FsState) → Follows i j s t → IsLeftOf j (shown_tree j t ∷ []) k → IsLeftOf i (shown_tree i s ∷ []) k

-- Data zones that are reset while the image is at rest.
use Rattle.std.specs.Prelude.{◌≡◌, ◌≢◌, ℕ, ◌≤◌, [], ◌∷◌, All, ◌==◌}
use Rattle.zone_image.specs.declared.Geometry.{Geometry}
use Rattle.zone_image.specs.Image.{Image, zone_of}
use Rattle.zone_image.specs.Changes.{emptied}
use Rattle.zone_image.specs.Infos.{IsValidImage}
use Rattle.zone_image.specs.Moments.{PassedByReset}
use Rattle.log_model.specs.FileTable.{Table}
use Rattle.log_model.specs.Mounted.{all_extents}
use Rattle.fs_model.specs.FsState.{FsState, extents_in, recorded}
use Rattle.fs_model.specs.CrashClauses.{shown_tree}
use Rattle.crash_cover.specs.SameData.{Avoids}
use Rattle.log_store.specs.Resetting.{LeftByReset, RestsWithoutZone}
use Rattle.change_cover.specs.Rests.{AreShown, Becomes, HaveNoPoints, Stands}
use Rattle.change_cover.specs.Left.{IsLeftOf}
use Rattle.change_cover.specs.SameTrees.{MountsTheSame}

-- the table has nothing in this zone
abbrev pub HasNothingIn : ℕ → Geometry → Table → Type 0
HasNothingIn zone g es = Avoids (λ n. n == zone) g es

-- no extent lies there, and no file has a recovery point
abbrev pub NoExtentIsNothing : Type 0
NoExtentIsNothing = (g : Geometry) (zone : ℕ) (es : Table) → HaveNoPoints es → All (λ x. zone_of g x.start ≢ zone) (all_extents es) → HasNothingIn zone g es

-- a zone in which no extent of the state lies
abbrev pub DeadZoneHasNothing : Type 0
DeadZoneHasNothing = (s : FsState) (zone : ℕ) → AreShown s.rows → HaveNoPoints (recorded s) → extents_in s zone ≡ [] → HasNothingIn zone s.geometry (recorded s)

-- after the reset the state stands still
abbrev pub ResetStands : Type 0
ResetStands = (i j : Image) (s next : FsState) (zone : ℕ) → Stands i s → HasNothingIn zone i.geometry (recorded s) → Becomes s.log s.rows next → RestsWithoutZone zone i j
    → Stands j next

-- a crash within it leaves the tree shown
abbrev pub ResetLeaves : Type 0
ResetLeaves = (i j : Image) (s : FsState) (zone : ℕ) → Stands i s → HasNothingIn zone i.geometry (recorded s) → LeftByReset zone i j → IsLeftOf i (shown_tree i s ∷ []) j

-- and mounts to just that
abbrev pub ResetMountsTheSame : Type 0
ResetMountsTheSame = (i j : Image) (s : FsState) (zone : ℕ) → Stands i s → HasNothingIn zone i.geometry (recorded s) → IsValidImage (emptied i zone) → 3 ≤ zone
    → PassedByReset i zone j → MountsTheSame i j

-- What calls that change names do to a device and to a state.
use Rattle.std.specs.Prelude.{◌≡◌, ◌⊎◌, ℕ, ◌<◌, true, List, [], ◌∷◌, drop, Result, Ok, Err, IsErrOf, OnOk}
use Rattle.zone_image.specs.declared.Geometry.{Geometry}
use Rattle.zone_image.specs.declared.ZoneInfo.{ZoneInfo}
use Rattle.zone_image.specs.Image.{Image, IsCrash}
use Rattle.zone_image.specs.Infos.{active_zones}
use Rattle.log_model.specs.FileTree.{Change, apply}
use Rattle.log_model.specs.Mounted.{all_extents}
use Rattle.fs_model.specs.declared.error.FsError.{FsError}
use Rattle.fs_model.specs.declared.error.FsError.TheVariants.{DevFault, Exists, IdsEnd, MetaFull, NoMemory, NotFound, SequenceEnd, Stopped}
use Rattle.fs_model.specs.CrashClauses.{shown_tree}
use Rattle.fs_model.specs.FsState.{FsState, descriptor_at, recorded}
use Rattle.fs_model.specs.LogSteps.{FsAction}
use Rattle.fs_model.specs.Trace.{Refines}
use Rattle.zoned_device.specs.DataKept.{KeepsData}
use Rattle.zoned_device.specs.DeviceSteps.{ChangesDevice}
use Rattle.zoned_device.specs.OtherData.{KeepsOtherData}
use Rattle.change_records.specs.PinnedRows.{AreSomeOf}
use Rattle.change_cover.specs.Left.{IsLeftOf}
use Rattle.change_steps.specs.Endings.{Ends}
use Rattle.change_cover.specs.Rests.{Stands}
use Rattle.change_cover.specs.SameTrees.{MountsTheSame}
use Rattle.fs_tables.specs.Steps.{infos_in}
use Rattle.fs_core.specs.DeadZones.{is_free}
use Rattle.fs_core.specs.FsValue.{CanWrite}

-- an answer that comes before anything is written
abbrev pub IsUnwritten : {A : Type 0} → Result A FsError → Type 0
IsUnwritten (Err DevFault) = ⊥
IsUnwritten (Err why) = Unit {0}
IsUnwritten (Ok x) = ⊥

-- a refusal that comes before anything is written, on a mount that isn't stopped
abbrev pub IsEarly : FsError → Type 0
IsEarly NotFound = Unit {0}
IsEarly Exists = Unit {0}
IsEarly IdsEnd = Unit {0}
IsEarly SequenceEnd = Unit {0}
IsEarly (MetaFull need capacity) = Unit {0}
IsEarly NoMemory = Unit {0}
IsEarly _ = ⊥

-- j is left of the tree that is shown, or of that tree with the change
abbrev pub LeavesBoth : Image → FsState → Change → Image → Type 0
LeavesBoth i s c j = IsLeftOf i (shown_tree i s ∷ apply c (shown_tree i s) ∷ []) j

-- what a crash leaves of an image on which the state stands, while this change is made
abbrev pub LeftByChange : Image → FsState → Change → Image → Type 0
LeftByChange i s c j = Stands i s → LeavesBoth i s c j

-- a crash leaves the tree after the change
abbrev pub LeavesAfter : Image → FsState → Change → Image → Type 0
LeavesAfter i s c j = (k : Image) → IsCrash j k → IsLeftOf i (apply c (shown_tree i s) ∷ []) k

-- What a call does that makes this change by this action, from the state s to t, on a mount that writes: the states are those
-- of the action, a crash leaves the tree before the change or after it, and what is recorded in the end has its bytes. Before
-- it writes, nothing is changed; after Ok the next change can be recorded, and the state stands where s stood.
pub record MakesChange {D A : Type 0} (known : D → Type 0) (geometry : D → Geometry) (infos : D → List ZoneInfo) (tells : Type 0) (image : D → Image) (tick : D → ℕ) (since : D → ℕ → Image → Type 0) (faults failed_changes : D → ℕ) (m : FsAction A) (c : Change) (old new : D) (s t : FsState) (result : Result A FsError) : Type 0 where
  pub steps : Refines m s result t
  pub running : IsErrOf result Stopped → ⊥
  pub unwritten : IsUnwritten result → (new ≡ old) × (t ≡ s)
  pub device : ChangesDevice known geometry tells image tick since faults failed_changes old new (IsErrOf result DevFault) (LeftByChange (image old) s c)
  pub kept : KeepsOtherData infos tells image (is_free s.geometry (recorded t)) old new
  pub extents : AreSomeOf (all_extents (recorded t)) (all_extents (recorded s))
  pub shape : t.geometry ≡ s.geometry
  pub told : OnOk result (infos_in t ≡ infos new)
  pub writes : OnOk result (CanWrite t)
  pub stands : OnOk result (tells → Stands (image old) s → Stands (image new) t)
  pub shown : OnOk result (tells → Stands (image old) s → shown_tree (image new) t ≡ apply c (shown_tree (image old) s))
  pub done : OnOk result (tells → Stands (image old) s → LeavesAfter (image old) s c (image new))
  pub failed : IsErrOf result DevFault → tells → Stands (image old) s → (t ≡ s) ⊎ LeavesAfter (image old) s c (image new)

-- A change that is stored, before the zones are reset that nothing needs any more: the state t stands where s stood, and what a
-- crash leaves then is left of the tree after the change.
pub record HasStored {D A : Type 0} (known : D → Type 0) (geometry : D → Geometry) (infos : D → List ZoneInfo) (tells : Type 0) (image : D → Image) (tick : D → ℕ) (since : D → ℕ → Image → Type 0) (faults failed_changes : D → ℕ) (m : FsAction A) (x : A) (c : Change) (old new : D) (s t : FsState) : Type 0 where
  pub ends : Ends m x s t
  pub told : infos_in t ≡ infos new
  pub writes : CanWrite t
  pub stands : tells → Stands (image old) s → Stands (image new) t
  pub device : ChangesDevice known geometry tells image tick since faults failed_changes old new ⊥ (LeftByChange (image old) s c)
  pub shown : tells → Stands (image old) s → shown_tree (image new) t ≡ apply c (shown_tree (image old) s)
  pub left : tells → Stands (image old) s → (k : Image) → MountsTheSame (image new) k → IsLeftOf (image old) (apply c (shown_tree (image old) s) ∷ []) k
  pub kept : KeepsData infos tells image old new
  pub extents : AreSomeOf (all_extents (recorded t)) (all_extents (recorded s))
  pub shape : t.geometry ≡ s.geometry

-- the log takes a further record: it may be ended, it has a block, and another zone can become active
pub record LogGoesOn (s : FsState) : Type 0 where
  pub ends : s.log.can_end ≡ true
  pub active : active_zones (drop 3 (infos_in s)) < s.geometry.active_limit
  pub log : 0 < (descriptor_at s s.log.zone).info.written

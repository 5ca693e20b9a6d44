-- What a mounted file system is to its callers.
use Rattle.std.specs.Prelude.{◌≡◌, ◌<◌, Bool, true, false, List, drop, All, Ok}
use Rattle.std.specs.List.{AllByRecursion}
use Rattle.zone_image.specs.declared.Geometry.{Geometry}
use Rattle.zone_image.specs.declared.ZoneInfo.{ZoneInfo}
use Rattle.zone_image.specs.Image.{Image}
use Rattle.zone_image.specs.Infos.{active_zones}
use Rattle.log_model.specs.Frames.{no_active}
use Rattle.log_model.specs.Headroom.{has_room}
use Rattle.log_model.specs.Mounted.{all_extents}
use Rattle.fs_model.specs.FsState.{FsState, state_in, recorded, working, descriptor_at}
use Rattle.change_cover.specs.Rests.{Rests}
use Rattle.mount_replay.specs.Rules.{IsWrittenExtent}
use Rattle.fs_tables.specs.Steps.{infos_in}

-- its state, whether it writes, whether a change has failed, and its device
pub record FsValue (D : Type 0) : Type 0 where
  pub state : FsState
  pub writing : Bool
  pub stopped : Bool
  pub device : D

-- The device is known and of the state's geometry, each recorded extent lies in what is written on it, and unless a change
-- has failed the zones are as it tells them.
pub record IsHeld {D : Type 0} (known : D → Type 0) (geometry : D → Geometry) (infos : D → List ZoneInfo) (f : FsValue D) : Type 0 where
  pub is_known : known f.device
  pub same_geometry : geometry f.device ≡ f.state.geometry
  pub written : All (IsWrittenExtent f.state.geometry (infos f.device)) (all_extents (recorded f.state))
  pub told : f.stopped ≡ false → infos_in f.state ≡ infos f.device

-- A change can be recorded: a new log takes the table and its greatest record, the log can be ended, another zone can become
-- active, no file has a recovery point, and the log has a block.
pub record CanWrite (s : FsState) : Type 0 where
  pub room : has_room s.geometry.capacity s.geometry.block (working s) ≡ true
  pub ends : s.log.can_end ≡ true
  pub active : active_zones (drop 3 (infos_in s)) < s.geometry.active_limit
  pub points : AllByRecursion (λ e. e.active ≡ no_active) (recorded s)
  pub log : 0 < (descriptor_at s s.log.zone).info.written

-- What is always true of a mounted file system. Until a change has failed, one that doesn't write has the state of its image,
-- and of one that writes each change can be recorded on an image at rest.
pub record IsMounted {D : Type 0} (known : D → Type 0) (geometry : D → Geometry) (infos : D → List ZoneInfo) (tells : Type 0) (image : D → Image) (f : FsValue D) : Type 0 where
  pub held : IsHeld known geometry infos f
  pub reads : f.writing ≡ false → f.stopped ≡ false → tells → state_in (image f.device) ≡ Ok f.state
  pub writes : f.writing ≡ true → f.stopped ≡ false → CanWrite f.state
  pub rests : f.writing ≡ true → f.stopped ≡ false → tells → Rests (image f.device) f.state

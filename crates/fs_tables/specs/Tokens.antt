-- Whether one more zone may be active, and which zone is finished for that.
use Rattle.std.specs.Prelude.{◌≡◌, ℕ, ◌<◌, ◌≤◌, true, drop}
use Rattle.zone_image.specs.Infos.{is_active_info, active_zones}
use Rattle.fs_model.specs.FsState.{FsState, descriptor_at}
use Rattle.fs_model.specs.Trace.{done}
use Rattle.fs_model.specs.LogSteps.{finish_zone}
use Rattle.fs_model.specs.TreeSteps.{free_token}
use Rattle.fs_tables.specs.Steps.{infos_in}

-- fewer data zones are active than the device allows
abbrev pub HasFreeToken : FsState → Type 0
HasFreeToken s = active_zones (drop 3 (infos_in s)) < s.geometry.active_limit

-- no zone is finished for one more
pub record FinishesNone (s : FsState) : Type 0 where
  pub nothing : free_token s ≡ done tt s
  pub free : HasFreeToken s

-- this active data zone is finished for one more
pub record FinishesZone (s : FsState) (zone : ℕ) : Type 0 where
  pub behind_metadata : 3 ≤ zone
  pub is_zone : zone < s.geometry.zones
  pub active : is_active_info (descriptor_at s zone).info ≡ true
  pub finish : free_token s ≡ finish_zone zone s
  pub free : HasFreeToken (finish_zone zone s).last

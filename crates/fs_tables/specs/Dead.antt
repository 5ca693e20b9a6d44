-- Zones that nothing needs.
use Rattle.std.specs.Prelude.{◌≡◌, ℕ, ◌<◌, ◌≤◌, false, List, [], ◌∷◌, ◌==◌}
use Rattle.std.specs.List.{AllByRecursion}
use Rattle.zone_image.specs.Image.{zone_of}
use Rattle.log_model.specs.Mounted.{all_extents}
use Rattle.fs_model.specs.FsState.{FsState, extents_in, recorded}
use Rattle.fs_model.specs.LogSteps.{reset_zone, resettable_zones}

-- no extent of the recorded table lies in this zone
abbrev pub AvoidsZone : FsState → ℕ → Type 0
AvoidsZone s zone = AllByRecursion (λ x. (zone_of s.geometry x.start == zone) ≡ false) (all_extents (recorded s))

-- the lowest of the data zones that may be reset; once it is reset, the others are left
pub record IsNextReset (s : FsState) (zone : ℕ) : Type 0 where
  pub behind_metadata : 3 ≤ zone
  pub is_zone : zone < s.geometry.zones
  pub dead : extents_in s zone ≡ []
  pub avoided : AvoidsZone s zone
  pub rest : List ℕ
  pub first : resettable_zones s ≡ zone ∷ rest
  pub left : resettable_zones (reset_zone zone s).last ≡ rest

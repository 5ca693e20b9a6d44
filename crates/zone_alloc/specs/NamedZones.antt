-- The zones that an allocator names: data zones that are there, and of the kind that is meant.
use Rattle.std.specs.Prelude.{ℕ, ◌<◌, ◌≤◌, Bool, Option, MatchOption, IsTrue}
use Rattle.fs_model.specs.declared.policy.Choice.{Choice}
use Rattle.fs_model.specs.declared.policy.Choice.TheVariants.{Take, Fresh, FinishFresh, Busy, NoSpace}
use Rattle.fs_model.specs.ZonePolicy.{Numbered, is_empty, is_idle_active}
use Rattle.fs_model.specs.VictimPolicy.{is_resettable}
use Rattle.zone_alloc.specs.ZoneTableState.{ZoneTableState, state_at}

-- a data zone of the table that passes
pub record IsNamed (p : Numbered → Bool) (t : ZoneTableState) (zone : ℕ) : Type 0 where
  pub behind_metadata : 3 ≤ zone
  pub is_zone : zone < t.geometry.zones
  pub passes : IsTrue (p (zone, state_at t zone))

-- a choice names only zones that nobody holds: one that is active, or one that is empty, for which an active one is finished
abbrev pub NamesIdleZones : ZoneTableState → Choice → Type 0
NamesIdleZones t (Take zone) = IsNamed is_idle_active t zone
NamesIdleZones t (Fresh zone) = IsNamed is_empty t zone
NamesIdleZones t (FinishFresh finish zone) = IsNamed is_idle_active t finish × IsNamed is_empty t zone
NamesIdleZones t Busy = Unit {0}
NamesIdleZones t NoSpace = Unit {0}

-- the zone that may be reset is the lowest such zone, and where none is named there is none
abbrev pub IsLowestResettable : ZoneTableState → Option ℕ → Type 0
IsLowestResettable t named =
    MatchOption named
    ((zone : ℕ) → IsNamed is_resettable t zone → ⊥)
    (λ lowest. IsNamed is_resettable t lowest × ((zone : ℕ) → IsNamed is_resettable t zone → lowest ≤ zone))

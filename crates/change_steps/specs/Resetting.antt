-- Zones that nothing needs, reset one by one.
use Rattle.std.specs.Prelude.{◌≡◌, ℕ, List, [], ◌∷◌, ◌++◌, Contains, Ok}
use Rattle.fs_model.specs.FsState.{FsState}
use Rattle.fs_model.specs.Trace.{each, intermediate_states}
use Rattle.fs_model.specs.LogSteps.{reset_zone, resettable_zones, reset_dead_zones}
use Rattle.change_steps.specs.Recording.{KeepsFiles}

-- the state after a zone was reset
abbrev pub after_reset : ℕ → FsState → FsState
after_reset zone s = (reset_zone zone s).last

-- of the zones that may be reset in s, the first ones have been, and t may reset exactly the others
pub record IsResetting (s t : FsState) : Type 0 where
  pub before : List ℕ
  pub others : List ℕ
  pub zones : resettable_zones s ≡ before ++ others
  pub state : t ≡ (each reset_zone before s).last
  pub left : resettable_zones t ≡ others

-- it begins with no zone reset
abbrev pub ResetsBegin : Type 0
ResetsBegin = (s : FsState) → IsResetting s s

-- it goes on with the lowest zone that may be reset, where the others still may
abbrev pub ResetsGoOn : Type 0
ResetsGoOn = (s t : FsState) (zone : ℕ) (others : List ℕ) → resettable_zones t ≡ zone ∷ others → resettable_zones (after_reset zone t) ≡ others
    → IsResetting s t → IsResetting s (after_reset zone t)

-- each state on the way is passed by the resets of all zones
abbrev pub ResetsArePassed : Type 0
ResetsArePassed = (s t : FsState) → IsResetting s t → Contains (intermediate_states (reset_dead_zones s)) t

-- where no zone is left it is their last state
abbrev pub ResetsEnd : Type 0
ResetsEnd = (s t : FsState) → IsResetting s t → resettable_zones t ≡ [] → t ≡ (reset_dead_zones s).last

-- resets are never refused
abbrev pub ResetsAnswer : Type 0
ResetsAnswer = (s : FsState) → (reset_dead_zones s).answer ≡ Ok tt

-- they keep the log and the files
abbrev pub ResetsKeepFiles : Type 0
ResetsKeepFiles = (s t : FsState) → IsResetting s t → KeepsFiles s t × (t.log ≡ s.log)

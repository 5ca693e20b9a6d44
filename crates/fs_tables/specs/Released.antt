-- Extents that are live no more.
use Rattle.std.specs.Prelude.{◌≤◌, ⊤, List, [], ◌∷◌}
use Rattle.zone_image.specs.Image.{zone_of}
use Rattle.record_model.specs.declared.types.Extent.{Extent}
use Rattle.fs_model.specs.FsState.{touched}
use Rattle.zone_alloc.specs.ZoneTableState.{ZoneTableState, IsInDataZone, live_removed, state_at, with_state}

-- the zones without an extent
abbrev pub released_one : Extent → ZoneTableState → ZoneTableState
released_one x t = with_state t (zone_of t.geometry x.start) (live_removed t.geometry.block x)

-- the zones without these extents
abbrev pub released : List Extent → ZoneTableState → ZoneTableState
released [] t = t
released (x ∷ xs) t = released xs (released_one x t)

-- an extent is live in its zone
pub record IsLive (x : Extent) (t : ZoneTableState) : Type 0 where
  pub within : IsInDataZone t.geometry x
  pub blocks : touched t.geometry.block x ≤ (state_at t (zone_of t.geometry x.start)).live
  pub bytes : x.len ≤ (state_at t (zone_of t.geometry x.start)).live_bytes

-- each of these extents is live where those before it aren't any more
abbrev pub AreLive : List Extent → ZoneTableState → Type 0
AreLive [] t = ⊤
AreLive (x ∷ xs) t = IsLive x t × AreLive xs (released_one x t)

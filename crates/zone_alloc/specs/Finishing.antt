-- Which zone is finished so that one more may be active.
use Rattle.std.specs.Prelude.{◌≢◌, ℕ, List, filter, Option, None, MatchOption, ◌==◌, if◌then◌else◌, option_map, count_by}
use Rattle.zone_image.specs.declared.Geometry.{Geometry}
use Rattle.fs_model.specs.declared.zones.ZoneState.{ZoneState}
use Rattle.fs_model.specs.ZonePolicy.{Numbered, data_zones, is_idle_active, least, room_of}
use Rattle.zone_alloc.specs.ZoneTableState.{ZoneTableState}
use Rattle.zone_alloc.specs.NamedZones.{IsNamed}

-- how many data zones are active that nobody holds
abbrev pub idle_actives : List ZoneState → ℕ
idle_actives zs = count_by is_idle_active (data_zones zs)

-- the one of them with least room, and the lowest of equals
abbrev pub fullest_active : ℕ → List ZoneState → Option Numbered
fullest_active capacity zs = least (λ z. room_of capacity z.1) (filter is_idle_active (data_zones zs))

-- its number, where as many are active as the device allows
abbrev pub zone_to_finish : Geometry → List ZoneState → Option ℕ
zone_to_finish g zs = if idle_actives zs == g.active_limit then option_map (λ z. z.0) (fullest_active g.capacity zs) else None

-- the zone is active; where none is named, not as many are active as the device allows
abbrev pub NamesActiveZone : ZoneTableState → Option ℕ → Type 0
NamesActiveZone t named = MatchOption named (idle_actives t.zones ≢ t.geometry.active_limit) (λ zone. IsNamed is_idle_active t zone)

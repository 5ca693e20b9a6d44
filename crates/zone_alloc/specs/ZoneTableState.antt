-- The zones of a file system as their table has them, and what its calls make of them.
use Rattle.std.specs.Prelude.{◌≡◌, ℕ, ◌+◌, ◌-◌, ◌^◌, ◌<◌, ◌≤◌, Bool, true, false, ◌||◌, ◌&&◌, List, length, ◌==◌, if◌then◌else◌, IsTrue, All, sum_by, slice_index_or}
use Rattle.zone_image.specs.declared.Geometry.{Geometry}
use Rattle.zone_image.specs.declared.ZoneInfo.{ZoneInfo}
use Rattle.zone_image.specs.Image.{is_valid, zone_of, offset_of, zone_bytes}
use Rattle.zone_image.specs.Changes.{change_at}
use Rattle.zone_image.specs.Infos.{no_info, info_appended, info_finished, IsPossibleInfo}
use Rattle.record_model.specs.declared.types.Extent.{Extent}
use Rattle.fs_model.specs.declared.zones.Owner.{Owner}
use Rattle.fs_model.specs.declared.zones.Owner.TheVariants.{Idle, Victim}
use Rattle.fs_model.specs.declared.zones.ZoneState.{ZoneState}
use Rattle.fs_model.specs.FsState.{touched}
use Rattle.fs_model.specs.ZonePolicy.{is_idle, is_open}

-- a device's geometry, whether collection is on, and the zones
pub record ZoneTableState : Type 0 where
  pub geometry : Geometry
  pub collect : Bool
  pub zones : List ZoneState

-- what stands for a zone that isn't there
abbrev pub no_state : ZoneState
no_state = record { info = record { written = 0; sealed = false }; owner = Idle; hint = 0; live = 0; live_bytes = 0 }

-- a zone as a device tells it: nobody holds it, and nothing in it is live
abbrev pub unused_state : ZoneInfo → ZoneState
unused_state info = record no_state { info = info }

-- a zone of a table, by number
abbrev pub state_at : ZoneTableState → ℕ → ZoneState
state_at t zone = slice_index_or t.zones zone no_state

-- a table with one zone changed
abbrev pub with_state : ZoneTableState → ℕ → (ZoneState → ZoneState) → ZoneTableState
with_state t zone f = record t { zones = change_at zone f t.zones }

-- the live blocks of all zones
abbrev pub live_blocks : List ZoneState → ℕ
live_blocks zs = sum_by (λ z. z.live) zs

-- the live bytes of all zones
abbrev pub live_bytes : List ZoneState → ℕ
live_bytes zs = sum_by (λ z. z.live_bytes) zs

-- the zones of a device: they are as a device may tell them, and the sums of their live blocks and bytes have 64 bits
pub record IsZoneTable (g : Geometry) (zs : List ZoneState) : Type 0 where
  pub valid : IsTrue (is_valid g)
  pub count : length zs ≡ g.zones
  pub each : All (λ z. IsPossibleInfo g z.info) zs
  pub blocks_fit : live_blocks zs < 2 ^ 64
  pub bytes_fit : live_bytes zs < 2 ^ 64

-- ---- what is done to a zone

-- a zone may be opened: an idle one that isn't sealed, and a sealed one as a victim
abbrev pub is_victim_owner : Owner → Bool
is_victim_owner Victim = true
is_victim_owner _ = false

-- nobody holds the zone, and it isn't sealed, but where it is to be emptied
abbrev pub can_open : Owner → ZoneState → Bool
can_open owner z = is_idle z && (is_open z || is_victim_owner owner)

-- it has an owner then, and one that is empty gets a hint
abbrev pub opened : Owner → ℕ → ZoneState → ZoneState
opened owner hint z = record z { owner = owner; hint = if is_open z && (z.info.written == 0) then hint else z.hint }

-- nobody holds it any more
abbrev pub released : ZoneState → ZoneState
released z = record z { owner = Idle }

-- with so many blocks more; a zone is sealed once it has as many as its capacity
abbrev pub state_appended : ℕ → ℕ → ZoneState → ZoneState
state_appended capacity count z = record z { info = info_appended capacity count z.info }

-- sealed
abbrev pub state_finished : ZoneState → ZoneState
state_finished z = record z { info = info_finished z.info }

-- empty again
abbrev pub state_emptied : ZoneState → ZoneState
state_emptied z = record z { info = no_info }

-- with another hint
abbrev pub with_hint : ℕ → ZoneState → ZoneState
with_hint hint z = record z { hint = hint }

-- an extent has a byte and lies in one data zone
pub record IsInDataZone (g : Geometry) (x : Extent) : Type 0 where
  pub behind_metadata : 3 ≤ zone_of g x.start
  pub is_zone : zone_of g x.start < g.zones
  pub some : 0 < x.len
  pub within : offset_of g x.start + x.len ≤ zone_bytes g

-- one more extent of it is live
abbrev pub live_added : ℕ → Extent → ZoneState → ZoneState
live_added block x z = record z { live = z.live + touched block x; live_bytes = z.live_bytes + x.len }

-- one less
abbrev pub live_removed : ℕ → Extent → ZoneState → ZoneState
live_removed block x z = record z { live = z.live - touched block x; live_bytes = z.live_bytes - x.len }

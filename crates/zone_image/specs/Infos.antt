-- The written numbers and seals of a device's zones, which every device tells.
use Rattle.std.specs.Prelude.{take, ◌≡◌, ℕ, ◌+◌, ◌≤◌, Bool, true, false, not, ◌&&◌, ◌||◌, List, length, map, replicate, nat_lt, ◌==◌, IsTrue, All, count_by, slice_index_or}
use Rattle.zone_image.specs.declared.Geometry.{Geometry}
use Rattle.zone_image.specs.declared.ZoneInfo.{ZoneInfo}
use Rattle.zone_image.specs.Image.{Zone, Image, is_valid}
use Rattle.zone_image.specs.Changes.{change_at, appended}

-- the number and the seal of an empty zone
abbrev pub no_info : ZoneInfo
no_info = record { written = 0; sealed = false }

-- the number of written blocks of a zone, and its seal
abbrev pub info_of : Zone → ZoneInfo
info_of z = record { written = length z.blocks; sealed = z.sealed }

-- those of all zones
abbrev pub infos_of : Image → List ZoneInfo
infos_of i = map info_of i.zones

-- those of one zone, by number
abbrev pub info_at : List ZoneInfo → ℕ → ZoneInfo
info_at infos zone = slice_index_or infos zone no_info

-- the zone has a block and isn't sealed
abbrev pub is_active_info : ZoneInfo → Bool
is_active_info info = not info.sealed && nat_lt 0 info.written

-- the number of active zones
abbrev pub active_zones : List ZoneInfo → ℕ
active_zones infos = count_by is_active_info infos

-- with so many blocks more; a zone is sealed once it has as many as its capacity
abbrev pub info_appended : ℕ → ℕ → ZoneInfo → ZoneInfo
info_appended capacity count info =
    record { written = info.written + count; sealed = info.sealed || (info.written + count == capacity) }

-- sealed
abbrev pub info_finished : ZoneInfo → ZoneInfo
info_finished info = record info { sealed = true }

-- all zones after an append of so many blocks
abbrev pub infos_appended : Geometry → List ZoneInfo → ℕ → ℕ → List ZoneInfo
infos_appended g infos zone count = change_at zone (info_appended g.capacity count) infos

-- all zones after a finish
abbrev pub infos_finished : List ZoneInfo → ℕ → List ZoneInfo
infos_finished infos zone = change_at zone info_finished infos

-- all zones after a reset
abbrev pub infos_emptied : List ZoneInfo → ℕ → List ZoneInfo
infos_emptied infos zone = change_at zone (λ _. no_info) infos

-- all zones of a new device
abbrev pub infos_blank : Geometry → List ZoneInfo
infos_blank g = replicate g.zones no_info

-- a zone has at most its capacity, and is sealed where it has as much
pub record IsPossibleInfo (g : Geometry) (info : ZoneInfo) : Type 0 where
  pub room : info.written ≤ g.capacity
  pub full : info.written ≡ g.capacity → IsTrue info.sealed

-- what a device of this geometry may tell of its zones
pub record IsPossible (g : Geometry) (infos : List ZoneInfo) : Type 0 where
  pub valid : IsTrue (is_valid g)
  pub count : length infos ≡ g.zones
  pub each : All (IsPossibleInfo g) infos
  pub active : active_zones infos ≤ g.active_limit

-- a zone has whole blocks, and no more durable ones than blocks
pub record IsZone (g : Geometry) (z : Zone) : Type 0 where
  pub kept : z.kept ≤ length z.blocks
  pub blocks : All (λ b. length b ≡ g.block) z.blocks

-- an image that a device may have
pub record IsValidImage (i : Image) : Type 0 where
  pub possible : IsPossible i.geometry (infos_of i)
  pub zones : All (IsZone i.geometry) i.zones

-- the image has this geometry and these numbers and seals
pub record IsImage (g : Geometry) (infos : List ZoneInfo) (i : Image) : Type 0 where
  pub shape : i.geometry ≡ g
  pub told : infos_of i ≡ infos
  pub zones : All (IsZone g) i.zones

-- the device now shows these numbers and seals, and this image where it tells it
pub record Shows (tells : Type 0) (wanted_infos : List ZoneInfo) (wanted : Image) (infos : List ZoneInfo) (image : Image) : Type 0 where
  pub same_infos : infos ≡ wanted_infos
  pub same_image : tells → image ≡ wanted

-- an append that failed wrote the first blocks, some number of them
pub record ShowsSome (g : Geometry) (tells : Type 0) (zone : ℕ) (added : List (List ℕ)) (old_infos : List ZoneInfo) (old : Image) (infos : List ZoneInfo) (image : Image) : Type 0 where
  pub count : ℕ
  pub some : count ≤ length added
  pub shows : Shows tells (infos_appended g old_infos zone count) (appended old zone (take count added)) infos image

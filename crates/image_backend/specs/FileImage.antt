-- The image that stands in a file: the blocks of its zones are the bytes at their places.
use Rattle.std.specs.Prelude.{◌≡◌, ℕ, suc, ◌+◌, ◌*◌, Bool, true, false, List, [], ◌∷◌, drop, map, Option, None, Some}
use Rattle.std.specs.List.{list_all}
use Rattle.zone_image.specs.declared.Geometry.{Geometry}
use Rattle.zone_image.specs.Image.{Zone, Image, zone_bytes}
use Rattle.zone_image.specs.Changes.{chunks}
use Rattle.image_backend.specs.declared.table.Slot.{Slot}
use Rattle.image_backend.specs.Format.{zones_at, info_in, is_descriptor, geometry_of, descriptors_in, has_header, is_image}
use Rattle.image_backend.specs.Table.{TableState, table_infos, table_in}

-- where a zone begins
abbrev pub zone_start : Geometry → ℕ → ℕ
zone_start g zone = zones_at g + zone * zone_bytes g

-- a zone: so many blocks as are written stand from its begin on
abbrev pub zone_there : Geometry → List ℕ → ℕ → Slot → Zone
zone_there g bytes zone s = record { blocks = chunks g.block s.written (drop (zone_start g zone) bytes); kept = s.kept; sealed = s.sealed }

-- the zones from this number on
abbrev pub zones_there : Geometry → List ℕ → ℕ → List Slot → List Zone
zones_there g bytes zone [] = []
zones_there g bytes zone (s ∷ slots) = zone_there g bytes zone s ∷ zones_there g bytes (suc zone) slots

-- the image of these zones in the bytes of a file
unfoldable pub image_with : TableState → List ℕ → Image
image_with t bytes = record { geometry = t.geometry; zones = zones_there t.geometry bytes 0 t.slots }

-- the image that the header and the descriptors of a file name: all its blocks are durable
abbrev pub found_image : List ℕ → Image
found_image bytes = image_with (table_in bytes) bytes

-- the image of a device: of the zones that it knows, or the one to be found
abbrev pub standing_image : Option TableState → List ℕ → Image
standing_image None bytes = found_image bytes
standing_image (Some t) bytes = image_with t bytes

-- the device knows no zones, and the bytes hold no image
abbrev pub IsNoImage : Option TableState → List ℕ → Type 0
IsNoImage None bytes = is_image bytes ≡ false
IsNoImage (Some t) bytes = ⊥

-- the header and the descriptors of a file say what is known of its zones
pub record Describes (bytes : List ℕ) (t : TableState) : Type 0 where
  pub header : has_header bytes ≡ true
  pub shape : geometry_of bytes ≡ t.geometry
  pub possible : list_all (is_descriptor t.geometry) (descriptors_in t.geometry bytes) ≡ true
  pub said : map info_in (descriptors_in t.geometry bytes) ≡ table_infos t

-- a file that tells its bytes describes the zones, unless a descriptor's write or a sync failed
abbrev pub IsDescribed : Type 0 → Bool → TableState → List ℕ → Type 0
IsDescribed tells broken t bytes = tells → broken ≡ false → Describes bytes t

-- the same where zones are known
abbrev pub IsDescribedIn : Type 0 → Bool → Option TableState → List ℕ → Type 0
IsDescribedIn tells broken None bytes = Unit {0}
IsDescribedIn tells broken (Some t) bytes = IsDescribed tells broken t bytes

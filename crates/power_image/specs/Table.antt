-- What is known of the zones of an image file, and the image that stands in it.
use Rattle.std.specs.Prelude.{◌≡◌, ℕ, true, false, List, ◌++◌, length, drop, map, replicate, Option, None, Some, cond, slice_index_or, slice_set}
use Rattle.std.specs.List.{list_all}
use Rattle.zone_image.specs.declared.Geometry.{Geometry}
use Rattle.zone_image.specs.Image.{Image}
use Rattle.image_backend.specs.declared.table.Slot.{Slot as Numbers}
use Rattle.image_backend.specs.Format.{geometry_of, zones_at as first_zones_at}
use Rattle.image_backend.specs.Table.{TableState, slot_of, table_blank, IsTable}
use Rattle.image_backend.specs.Contents.{patched}
use Rattle.image_backend.specs.FileImage.{image_with}
use Rattle.power_image.specs.declared.descriptor.Slot.{Slot}
use Rattle.power_image.specs.declared.descriptor.Descriptor.{Descriptor}
use Rattle.power_image.specs.declared.table.Zone.{Zone}
use Rattle.power_image.specs.Layout.{zones_at}
use Rattle.power_image.specs.Descriptors.{descriptors_in, is_descriptor, said_in, told, has_header, is_image}

-- the geometry and the numbers of each zone, and what each zone's descriptor says
pub record Known : Type 0 where
  pub zones : TableState
  pub descriptors : List Descriptor

-- a zone as it is kept
abbrev pub numbers_of : Zone → Numbers
numbers_of z = record { written = z.written; kept = z.kept; sealed = z.sealed }

-- a zone whose blocks are all durable
abbrev pub zone_kept : Zone → Zone
zone_kept z = record z { kept = z.written }

-- what an empty zone's descriptor says at first
abbrev pub no_slot : Slot
no_slot = record { turn = 0; seal = 0; written = 0 }

abbrev pub no_descriptor : Descriptor
no_descriptor = record { second = false; counting = no_slot; other = no_slot; other_open = false }

-- a descriptor, by number
abbrev pub descriptor_in : Known → ℕ → Descriptor
descriptor_in k zone = slice_index_or k.descriptors zone no_descriptor

-- with another descriptor of one zone
abbrev pub with_descriptor : Known → ℕ → Descriptor → Known
with_descriptor k zone d = record k { descriptors = slice_set k.descriptors zone d }

-- zones as their descriptors tell them: all their blocks are durable
abbrev pub zones_told : Geometry → List Descriptor → TableState
zones_told g ds = record { geometry = g; slots = map slot_of (map told ds) }

-- what is known of a file's zones once its descriptors are read
abbrev pub known_of : Geometry → List (List ℕ) → Known
known_of g ds = record { zones = zones_told g (map said_in ds); descriptors = map said_in ds }

-- what is known of the zones of a new image
abbrev pub known_blank : Geometry → Known
known_blank g = record { zones = table_blank g; descriptors = replicate g.zones no_descriptor }

-- The bytes of the zones where a file of the other form has them, whose descriptors have another length: the image is the
-- one that such a file has.
abbrev pub zones_alone : Geometry → List ℕ → List ℕ
zones_alone g bytes = replicate (first_zones_at g) 0 ++ drop (zones_at g) bytes

-- the image of these zones in the bytes of a file
abbrev pub image_in : TableState → List ℕ → Image
image_in t bytes = image_with t (zones_alone t.geometry bytes)

-- the image that the header and the descriptors of a file name: all its blocks are durable
abbrev pub found_image : List ℕ → Image
found_image bytes = image_in (zones_told (geometry_of bytes) (map said_in (descriptors_in (geometry_of bytes) bytes))) bytes

-- the image that the bytes of a file hold, if they hold one
abbrev pub image_of : List ℕ → Option Image
image_of bytes = cond (is_image bytes) (Some (found_image bytes)) None

-- the image of a device: of the zones that it knows, or the one to be found
abbrev pub standing_image : Option Known → List ℕ → Image
standing_image None bytes = found_image bytes
standing_image (Some k) bytes = image_in k.zones bytes

-- the device knows no zones, and the bytes hold no image
abbrev pub IsNoImage : Option Known → List ℕ → Type 0
IsNoImage None bytes = is_image bytes ≡ false
IsNoImage (Some k) bytes = ⊥

-- the header is right, and the descriptors of a file say what is known of them
pub record Describes (bytes : List ℕ) (g : Geometry) (ds : List Descriptor) : Type 0 where
  pub header : has_header bytes ≡ true
  pub shape : geometry_of bytes ≡ g
  pub right : list_all (is_descriptor g) (descriptors_in g bytes) ≡ true
  pub said : map said_in (descriptors_in g bytes) ≡ ds

-- a descriptor's bytes are right, and say this
pub record Says (g : Geometry) (bytes : List ℕ) (d : Descriptor) : Type 0 where
  pub right : is_descriptor g bytes ≡ true
  pub said : said_in bytes ≡ d

-- a piece that is written into each descriptor which says the one makes it say the other
abbrev pub Turns : Geometry → ℕ → List ℕ → Descriptor → Descriptor → Type 0
Turns g at piece old new = (bytes : List ℕ) → length bytes ≡ 32 → Says g bytes old → Says g (patched at piece bytes) new

-- what is known of a file's zones once it is read
abbrev pub known_in : List ℕ → Known
known_in bytes = known_of (geometry_of bytes) (descriptors_in (geometry_of bytes) bytes)

-- what may be known: the numbers are possible, and each zone has a descriptor
pub record IsKnownTable (k : Known) : Type 0 where
  pub table : IsTable k.zones
  pub count : length k.descriptors ≡ k.zones.geometry.zones

-- The image in a file is one of the geometry and the zones that are known.
use Rattle.std.specs.Prelude.{◌≡◌, ℕ, ◌≤◌, List, length, drop, replicate, Option, None, Some}
use Rattle.std.proofs.Common.{arith, length-drop, length-append}
use Rattle.std.proofs.lemmas.List.{length-replicate}
use Rattle.zone_image.specs.declared.Geometry.{Geometry}
use Rattle.zone_image.specs.Infos.{IsImage}
use Rattle.image_backend.specs.Format.{zones_at as first_zones_at, image_bytes as first_image_bytes}
use Rattle.image_backend.specs.ImageLaws.{image_is}
use Rattle.power_image.specs.Layout.{zones_at, image_bytes}
use Rattle.power_image.specs.Table.{Known, zones_alone, standing_image, IsNoImage}
use Rattle.power_image.specs.State.{IsKnown, geometry_in, infos_in}

-- with the descriptors taken out, the bytes are as many as a file of the other form needs
pub alone_long : (g : Geometry) (bytes : List ℕ) → image_bytes g ≤ length bytes → first_image_bytes g ≤ length (zones_alone g bytes)
alone_long g bytes long =
    omega (arith, long, length-append (replicate (first_zones_at g) 0) (drop (zones_at g) bytes), length-replicate {A = ℕ} (first_zones_at g) 0, length-drop (zones_at g) bytes)

-- what a known device tells of its image
pub known_image : {F : Type 0} (is_open is_sized : F → Type 0) (size : F → ℕ) (table : Option Known) (file : F) (bytes : List ℕ) → (is_sized file → length bytes ≡ size file)
    → IsKnown is_open is_sized size table file → IsImage (geometry_in table) (infos_in table) (standing_image table bytes)
known_image is_open is_sized size None file bytes sized none = absurd none
known_image is_open is_sized size (Some k) file bytes sized is =
    image_is k.zones (zones_alone k.zones.geometry bytes) is.table (alone_long k.zones.geometry bytes (omega (arith, sized is.zones.known, is.zones.long)))

-- a known device has an image
pub known_there : {F : Type 0} (is_open is_sized : F → Type 0) (size : F → ℕ) (table : Option Known) (file : F) (bytes : List ℕ) → IsKnown is_open is_sized size table file
    → IsNoImage table bytes → ⊥
known_there is_open is_sized size None file bytes none absent = none
known_there is_open is_sized size (Some k) file bytes is absent = absent

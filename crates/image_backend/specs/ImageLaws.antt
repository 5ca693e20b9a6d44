-- The image in a file is one of the geometry and the zones that are known.
use Rattle.std.specs.Prelude.{◌≡◌, ℕ, suc, ◌+◌, ◌*◌, ◌<◌, ◌≤◌, List, [], ◌∷◌, length, drop, map, All, refl, Option, None, Some}
use Rattle.std.proofs.Common.{ap, ◌∙◌, arith, length-drop}
use Rattle.std.proofs.lemmas.List.{length-map}
use Rattle.std.proofs.lemmas.List.Elements.{All-nil, All-cons, All-head, All-tail}
use Rattle.std.proofs.Math.Nat.{mul-le-mul_right}
use Rattle.zone_image.specs.declared.Geometry.{Geometry}
use Rattle.zone_image.specs.declared.ZoneInfo.{ZoneInfo}
use Rattle.zone_image.specs.Image.{zone_bytes}
use Rattle.zone_image.specs.Infos.{info_of, IsPossibleInfo, IsZone, IsImage}
use Rattle.zone_image.proofs.BlockLaws.{length-chunks, All-chunks}
use Rattle.image_backend.specs.declared.table.Slot.{Slot}
use Rattle.image_backend.specs.Format.{image_bytes}
use Rattle.image_backend.specs.Table.{TableState, table_infos, slot_info, IsTable}
use Rattle.image_backend.specs.ImageState.{IsKnown, geometry_in, infos_in}
use Rattle.image_backend.specs.FileImage.{zone_start, zone_there, zones_there, image_with, standing_image, IsNoImage}

-- no zone has more blocks than its capacity
abbrev pub AllFit : Geometry → List Slot → Type 0
AllFit g slots = All (λ s. s.written ≤ g.capacity) slots

fit_all : (g : Geometry) (slots : List Slot) → All (IsPossibleInfo g) (map slot_info slots) → AllFit g slots
fit_all g [] all = All-nil (λ (s : Slot). s.written ≤ g.capacity)
fit_all g (s ∷ slots) all =
    All-cons (λ (s : Slot). s.written ≤ g.capacity) s slots (All-head (IsPossibleInfo g) (slot_info s) (map slot_info slots) all).room
    (fit_all g slots (All-tail (IsPossibleInfo g) (slot_info s) (map slot_info slots) all))

pub all_fit : (t : TableState) → IsTable t → AllFit t.geometry t.slots
all_fit t is = fit_all t.geometry t.slots is.possible.each

more_zones : (n size : ℕ) → (n + 1) * size ≡ n * size + size
more_zones n size = omega arith

-- the blocks of a zone end where the next one begins, or before
pub zone_ends : (g : Geometry) (zone written : ℕ) → g.capacity ≤ g.zone_blocks → written ≤ g.capacity → zone_start g zone + written * g.block ≤ zone_start g (zone + 1)
zone_ends g zone written capacity room =
    let blocks : written * g.block ≤ zone_bytes g = mul-le-mul_right g.block (omega (arith, room, capacity)) in
    omega (arith, blocks, more_zones zone (zone_bytes g))

-- a zone of a lower number begins earlier
pub zone_order : (g : Geometry) (low high : ℕ) → low ≤ high → zone_start g low ≤ zone_start g high
zone_order g low high le =
    let bytes : low * zone_bytes g ≤ high * zone_bytes g = mul-le-mul_right (zone_bytes g) le in
    omega (arith, bytes)

-- what is told of a zone with so many blocks
abbrev info_with : Slot → ℕ → ZoneInfo
info_with s k = record { written = k; sealed = s.sealed }

infos_there : (g : Geometry) (bytes : List ℕ) (n : ℕ) (slots : List Slot) → map info_of (zones_there g bytes n slots) ≡ map slot_info slots
infos_there g bytes n [] = refl
infos_there g bytes n (s ∷ slots) =
    ap (λ k. info_with s k ∷ map info_of (zones_there g bytes (suc n) slots)) (length-chunks g.block s.written (drop (zone_start g n) bytes))
    ∙ ap (λ (l : List ZoneInfo). slot_info s ∷ l) (infos_there g bytes (suc n) slots)

module _ (g : Geometry) (bytes : List ℕ) (capacity : g.capacity ≤ g.zone_blocks) (long : image_bytes g ≤ length bytes) where
  zone_is : (n : ℕ) (s : Slot) → n < g.zones → s.kept ≤ s.written → s.written ≤ g.capacity → IsZone g (zone_there g bytes n s)
  zone_is n s in_range kept room =
      let ends : zone_start g n + s.written * g.block ≤ zone_start g (n + 1) = zone_ends g n s.written capacity room in
      let last : zone_start g (n + 1) ≤ zone_start g g.zones = zone_order g (n + 1) g.zones (omega (arith, in_range)) in
      record {
        kept = omega (arith, kept, length-chunks g.block s.written (drop (zone_start g n) bytes));
        blocks = All-chunks g.block s.written (drop (zone_start g n) bytes) (omega (arith, ends, last, long, length-drop (zone_start g n) bytes));
      }

  zones_are : (n : ℕ) (slots : List Slot) → n + length slots ≤ g.zones → All (λ s. s.kept ≤ s.written) slots → AllFit g slots → All (IsZone g) (zones_there g bytes n slots)
  zones_are n [] count kept fit = All-nil (IsZone g)
  zones_are n (s ∷ slots) count kept fit =
      All-cons (IsZone g) (zone_there g bytes n s) (zones_there g bytes (suc n) slots)
      (zone_is n s (omega (arith, count)) (All-head (λ (s : Slot). s.kept ≤ s.written) s slots kept) (All-head (λ (s : Slot). s.written ≤ g.capacity) s slots fit))
      (zones_are (suc n) slots (omega (arith, count)) (All-tail (λ (s : Slot). s.kept ≤ s.written) s slots kept) (All-tail (λ (s : Slot). s.written ≤ g.capacity) s slots fit))

pub image_is : (t : TableState) (bytes : List ℕ) → IsTable t → image_bytes t.geometry ≤ length bytes → IsImage t.geometry (table_infos t) (image_with t bytes)
unfolding image_with
image_is t bytes is long = record {
  shape = refl;
  told = infos_there t.geometry bytes 0 t.slots;
  zones = zones_are t.geometry bytes (grind (arith, is.possible.valid)) long 0 t.slots (omega (arith, is.possible.count, length-map t.slots slot_info)) is.kept (all_fit t is);
}

-- what a known device tells of its image
pub known_image : {F : Type 0} (is_open is_sized : F → Type 0) (size : F → ℕ) (table : Option TableState) (file : F) (bytes : List ℕ) → (is_sized file → length bytes ≡ size file)
    → IsKnown is_open is_sized size table file → IsImage (geometry_in table) (infos_in table) (standing_image table bytes)
known_image is_open is_sized size None file bytes sized none = absurd none
known_image is_open is_sized size (Some t) file bytes sized is = image_is t bytes is.table (omega (arith, sized is.zones.known, is.zones.long))

-- a known device has an image
pub known_there : {F : Type 0} (is_open is_sized : F → Type 0) (size : F → ℕ) (table : Option TableState) (file : F) (bytes : List ℕ) → IsKnown is_open is_sized size table file
    → IsNoImage table bytes → ⊥
known_there is_open is_sized size None file bytes none absent = none
known_there is_open is_sized size (Some t) file bytes is absent = absent

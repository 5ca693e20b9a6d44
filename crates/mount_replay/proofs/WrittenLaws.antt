-- Extents within the written part of a data zone.
use Rattle.std.proofs.Common.{◌≡◌, ℕ, ◌+◌, ◌*◌, ◌-◌, ◌/◌, ◌%◌, ◌^◌, ◌<◌, ◌≤◌, Bool, true, false, cond, ◌&&◌, List, [], ◌∷◌, length, nat_lt, nat_le, refl, sym, ◌∙◌, ap, subst, arith}
use Rattle.std.specs.Prelude.{◌==◌, IsTrue}
use Rattle.std.specs.List.{All}
use Rattle.std.proofs.Math.Nat.{mul-le-mul_right}
use Rattle.std.proofs.lemmas.Bool.{and_parts}
use Rattle.std.proofs.lemmas.Bool.Decides.{nat_tests}
use Rattle.std.proofs.lemmas.List.Elements.{All-nil, All-cons}
use Rattle.std.proofs.lemmas.Nat.{div-add-mod', div-mul-add, mod-mul-add}
use Rattle.zone_image.specs.declared.Geometry.{Geometry}
use Rattle.zone_image.specs.declared.ZoneInfo.{ZoneInfo}
use Rattle.zone_image.specs.Image.{Image, is_valid, zone_bytes, zone_of, offset_of}
use Rattle.zone_image.specs.Address.{device_bytes}
use Rattle.zone_image.specs.Infos.{no_info, info_at, IsImage, IsPossible}
use Rattle.record_model.specs.declared.types.Extent.{Extent}
use Rattle.record_model.specs.Grammar.{IsExtent}
use Rattle.log_model.specs.Frames.{extent_if_any}
use Rattle.zone_alloc.specs.ZoneTableState.{IsInDataZone}
use Rattle.mount_replay.specs.Rules.{is_recovery_point_in, IsWrittenExtent}

-- the written blocks of a zone have no more bytes than a zone
written_fits : (g : Geometry) (infos : List ZoneInfo) (zone : ℕ) → IsPossible g infos → zone < g.zones → (info_at infos zone).written * g.block ≤ zone_bytes g
written_fits g infos zone possible within =
    let here : zone < length infos = omega (arith, possible.count, within) in
    let room : (info_at infos zone).written ≤ g.capacity = (possible.each zone no_info here).room in
    let valid : IsTrue (is_valid g) = possible.valid in
    let capacity : g.capacity ≤ g.zone_blocks = grind (arith, valid) in
    let first : (info_at infos zone).written * g.block ≤ g.capacity * g.block = mul-le-mul_right g.block room in
    let second : g.capacity * g.block ≤ g.zone_blocks * g.block = mul-le-mul_right g.block capacity in
    omega (arith, first, second)

-- the three tests
tested : (zone zones n limit : ℕ) → 3 ≤ zone → zone < zones → n ≤ limit → (nat_le 3 zone && nat_lt zone zones && nat_le n limit) ≡ true
tested zone zones n limit a b c = grind (arith, nat_tests)

-- an extent at an offset of a zone
pub placed_extent : (g : Geometry) (infos : List ZoneInfo) (zone offset : ℕ) (x : Extent) → IsPossible g infos → 3 ≤ zone → zone < g.zones → x.start ≡ zone * zone_bytes g + offset → 0 < x.len
    → offset + x.len ≤ (info_at infos zone).written * g.block → IsWrittenExtent g infos x
placed_extent g infos zone offset x possible behind within start some fits =
    let inside : offset < zone_bytes g = omega (arith, fits, written_fits g infos zone possible within, some) in
    let same_zone : zone_of g x.start ≡ zone = ap (λ (n : ℕ). n / zone_bytes g) start ∙ div-mul-add zone (zone_bytes g) offset inside in
    let same_offset : offset_of g x.start ≡ offset = ap (λ (n : ℕ). n % zone_bytes g) start ∙ mod-mul-add zone (zone_bytes g) offset inside in
    record {
      some = some;
      written =
          subst (λ (z : ℕ). (nat_le 3 z && nat_lt z g.zones && nat_le (offset_of g x.start + x.len) ((info_at infos z).written * g.block)) ≡ true) (sym same_zone)
          (subst (λ (o : ℕ). (nat_le 3 zone && nat_lt zone g.zones && nat_le (o + x.len) ((info_at infos zone).written * g.block)) ≡ true) (sym same_offset)
          (tested zone g.zones (offset + x.len) ((info_at infos zone).written * g.block) behind within fits));
    }

at_least : (m n : ℕ) → nat_le m n ≡ true → m ≤ n
at_least m n h = grind (arith, nat_tests)

below : (m n : ℕ) → nat_lt m n ≡ true → m < n
below m n h = grind (arith, nat_tests)

-- it lies in a data zone
pub in_data_zone : (g : Geometry) (infos : List ZoneInfo) (x : Extent) → IsPossible g infos → IsWrittenExtent g infos x → IsInDataZone g x
in_data_zone g infos x possible is =
    let zone = zone_of g x.start in
    let all = and_parts (nat_le 3 zone && nat_lt zone g.zones) (nat_le (offset_of g x.start + x.len) ((info_at infos zone).written * g.block)) is.written in
    let two = and_parts (nat_le 3 zone) (nat_lt zone g.zones) all.0 in
    let within : zone < g.zones = below zone g.zones two.1 in
    record {
      behind_metadata = at_least 3 zone two.0;
      is_zone = within;
      some = is.some;
      within = omega (arith, at_least (offset_of g x.start + x.len) ((info_at infos zone).written * g.block) all.1, written_fits g infos zone possible within);
    }

-- it ends within the device
pub ends_within : (g : Geometry) (x : Extent) → IsInDataZone g x → x.start + x.len ≤ device_bytes g
ends_within g x is =
    let zone : ℕ = zone_of g x.start in
    let size : ℕ = zone_bytes g in
    let address : zone * size + offset_of g x.start ≡ x.start = div-add-mod' x.start size in
    let next : (zone + 1) * size ≤ g.zones * size = mul-le-mul_right size (omega (arith, is.is_zone)) in
    let grown : (zone + 1) * size ≡ zone * size + size = grind (arith) in
    omega (arith, address, next, grown, is.within)

-- a device has less than 2^64 bytes
pub device_small : (g : Geometry) → IsTrue (is_valid g) → device_bytes g < 2 ^ 48
device_small g valid =
    let size : zone_bytes g < 2 ^ 32 = grind (arith, valid) in
    let zones : g.zones ≤ 65536 = grind (arith, valid) in
    let device : g.zones * zone_bytes g ≤ 65536 * zone_bytes g = mul-le-mul_right (zone_bytes g) zones in
    omega (arith, device, size)

-- a record may have it
pub extent_in_range : (g : Geometry) (x : Extent) → IsTrue (is_valid g) → IsInDataZone g x → IsExtent x
extent_in_range g x valid is =
    (omega (arith, ends_within g x is, device_small g valid), is.some, omega (arith, ends_within g x is, device_small g valid))

-- ---- recovery points

-- the start of a block of a zone, by its number there
pub point_place : (g : Geometry) (infos : List ZoneInfo) (start : ℕ) → is_recovery_point_in g infos start ≡ true
    → (3 ≤ zone_of g start) × (start ≡ zone_of g start * zone_bytes g + offset_of g start / g.block * g.block)
point_place g infos start point =
    let zone = zone_of g start in
    let all = and_parts ((nat_le 3 zone && nat_lt zone g.zones) && (offset_of g start % g.block == 0)) (nat_le (offset_of g start) ((info_at infos zone).written * g.block)) point in
    let three = and_parts (nat_le 3 zone && nat_lt zone g.zones) (offset_of g start % g.block == 0) all.0 in
    let whole : offset_of g start % g.block ≡ 0 = is_zero (offset_of g start % g.block) three.1 in
    (at_least 3 zone (and_parts (nat_le 3 zone) (nat_lt zone g.zones) three.0).0, omega (arith, div-add-mod' start (zone_bytes g), div-add-mod' (offset_of g start) g.block, whole))
  where
    is_zero : (n : ℕ) → (n == 0) ≡ true → n ≡ 0
    is_zero n h = grind (arith, nat_tests)

-- a frame that begins at a block
pub frame_extent : (g : Geometry) (infos : List ZoneInfo) (zone at count len start : ℕ) → IsPossible g infos → 3 ≤ zone → zone < g.zones → start ≡ zone * zone_bytes g + at * g.block → 0 < len
    → 8 + len ≤ count * g.block → at + count ≤ (info_at infos zone).written → IsWrittenExtent g infos (record { start = start + 8; len = len })
frame_extent g infos zone at count len start possible behind within place some holds fits =
    let last : (at + count) * g.block ≤ (info_at infos zone).written * g.block = mul-le-mul_right g.block fits in
    let split : (at + count) * g.block ≡ at * g.block + count * g.block = grind (arith) in
    placed_extent g infos zone (at * g.block + 8) (record { start = start + 8; len = len }) possible behind within (omega (arith, place)) some (omega (arith, holds, last, split))

-- the next frame's place
pub next_place : (start step zone size at count block : ℕ) → start ≡ zone * size + at * block → step ≡ count * block → start + step ≡ zone * size + (at + count) * block
next_place start step zone size at count block place steps =
    let split : (at + count) * block ≡ at * block + count * block = grind (arith) in
    omega (arith, place, steps, split)

-- all blocks from a block on
pub rest_extent : (g : Geometry) (infos : List ZoneInfo) (zone first start len : ℕ) → IsPossible g infos → 3 ≤ zone → zone < g.zones → start ≡ zone * zone_bytes g + first * g.block → 0 < len
    → first ≤ (info_at infos zone).written → len ≡ ((info_at infos zone).written - first) * g.block → IsWrittenExtent g infos (record { start = start; len = len })
rest_extent g infos zone first start len possible behind within place some written is =
    let whole : first + ((info_at infos zone).written - first) ≡ (info_at infos zone).written = omega arith in
    let split : (first + ((info_at infos zone).written - first)) * g.block ≡ first * g.block + ((info_at infos zone).written - first) * g.block = grind (arith) in
    let same : (first + ((info_at infos zone).written - first)) * g.block ≡ (info_at infos zone).written * g.block = ap (λ (n : ℕ). n * g.block) whole in
    placed_extent g infos zone (first * g.block) (record { start = start; len = len }) possible behind within place some (omega (arith, split, same, is))

-- what a device may tell, by another name of its shape
pub possible_for : (g h : Geometry) (infos : List ZoneInfo) → g ≡ h → IsPossible h infos → IsPossible g infos
possible_for g h infos shape possible = subst (λ (k : Geometry). IsPossible k infos) (sym shape) possible

-- an extent, if there is any
pub all_if_any : (P : Extent → Type 0) (start len : ℕ) → (0 < len → P (record { start = start; len = len })) → All P (extent_if_any start len)
all_if_any P start len each = go (len == 0) refl
  where
    positive : (n : ℕ) → (n == 0) ≡ false → 0 < n
    positive n h = grind (arith, nat_tests)

    go : (c : Bool) → (len == 0) ≡ c → All P (cond c [] ((record { start = start; len = len }) ∷ []))
    go true none = All-nil P
    go false some = All-cons P (record { start = start; len = len }) [] (each (omega (arith, positive len some))) (All-nil P)

-- the same of the zones too
pub possible_as : (g h : Geometry) (infos told : List ZoneInfo) → g ≡ h → infos ≡ told → IsPossible h told → IsPossible g infos
possible_as g h infos told shape same possible = subst (λ k. IsPossible k infos) (sym shape) (subst (λ l. IsPossible h l) (sym same) possible)

pub told_as : (g h : Geometry) (infos told : List ZoneInfo) (i : Image) → g ≡ h → infos ≡ told → IsImage h told i → IsImage g infos i
told_as g h infos told i shape same image = subst (λ k. IsImage k infos i) (sym shape) (subst (λ l. IsImage h l i) (sym same) image)

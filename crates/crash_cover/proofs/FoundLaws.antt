-- Where the extents lie that are found again from a recovery point.
use Rattle.std.specs.Prelude.{◌≡◌, ℕ, zero, suc, ◌+◌, ◌*◌, ◌-◌, ◌/◌, ◌%◌, ◌<◌, ◌≤◌, Bool, true, false, not, ◌&&◌, ◌||◌, cond, List, [], ◌∷◌, length, map, take, drop, nat_lt, nat_le, ◌==◌, refl}
use Rattle.std.proofs.Common.{◌∙◌, ap, sym, subst, arith}
use Rattle.std.proofs.Math.Nat.{mul-le-mul_right, add-mul, div-le_of_le-mul, mul_comm}
use Rattle.std.proofs.lemmas.Nat.{div-add-mod', div-mul-add, mod-mul-add}
use Rattle.std.proofs.lemmas.Bool.{leb-true, le-leb, ltb-false, ltb-true, lt-ltb, eqb-true, eqb-false, and_parts, and_from, or_parts}
use Rattle.std.proofs.lemmas.List.{length-drop}
use Rattle.std.proofs.lemmas.List.Elements.{All-head, All-tail}
use Rattle.std.proofs.lemmas.Grind.{div_ceil_times}
use Rattle.std.specs.Int.{w64, from_le_bytes}
use Rattle.std.specs.List.{All, AllByRecursion}
use Rattle.zone_image.specs.declared.Geometry.{Geometry}
use Rattle.zone_image.specs.Image.{Zone, Image, zone_at, zone_in, zone_of, offset_of, zone_bytes, is_valid}
use Rattle.zone_image.specs.Infos.{info_of, IsPossibleInfo, IsValidImage}
use Rattle.zone_image.proofs.InfoLaws.{some_block}
use Rattle.record_model.specs.declared.types.Extent.{Extent}
use Rattle.log_model.specs.Frames.{no_active, frame_blocks, frames_within, frames_at, blocks_from, rest_at, extent_if_any, is_recovery_point}
use Rattle.crash_cover.specs.FoundExtents.{IsWrittenIn, FoundIsWritten}

-- an extent of a byte at least, within two addresses
LiesIn : ℕ → ℕ → Extent → Type 0
LiesIn from end x = (from ≤ x.start) × (x.start + x.len ≤ end) × (0 < x.len)

-- within wider addresses too
lie_in_more : (a b from end : ℕ) (xs : List Extent) → a ≤ from → end ≤ b → AllByRecursion (LiesIn from end) xs → AllByRecursion (LiesIn a b) xs
unfolding LiesIn
lie_in_more a b from end [] low high h = tt
lie_in_more a b from end (x ∷ xs) low high h =
    ((omega (arith, h.0.0), omega (arith, h.0.1), h.0.2), lie_in_more a b from end xs low high h.1)

-- a frame and those behind it, where the walk goes on
frame_lies : (stop : Bool) (from end : ℕ) (x : Extent) (xs : List Extent) → (stop ≡ false → LiesIn from end x × AllByRecursion (LiesIn from end) xs)
    → AllByRecursion (LiesIn from end) (cond stop [] (x ∷ xs))
frame_lies true from end x xs h = tt
frame_lies false from end x xs h = h refl

-- what isn't none is some
positive : (m : ℕ) → (m ≡ 0 → ⊥) → 0 < m
positive zero h = absurd (h refl)
positive (suc m) h = omega arith

-- frames lie within their blocks
frames_lie : (k block at : ℕ) (blocks : List (List ℕ)) → 0 < block → AllByRecursion (LiesIn at (at + length blocks * block)) (frames_within k block at blocks)
unfolding LiesIn
frames_lie zero block at blocks pos = tt
frames_lie (suc k) block at [] pos = tt
frames_lie (suc k) block at (b ∷ bs) pos =
    let len : ℕ = from_le_bytes w64 (take 8 b) in
    let n : ℕ = frame_blocks block len in
    let left : ℕ = length (drop n (b ∷ bs)) in
    frame_lies ((len == 0) || nat_lt (length (b ∷ bs)) n) at (at + length (b ∷ bs) * block) (record { start = at + 8; len = len })
    (frames_within k block (at + n * block) (drop n (b ∷ bs)))
    (λ goes.
    let parts = or_parts (len == 0) (nat_lt (length (b ∷ bs)) n) goes in
    let some : 0 < len = positive len (eqb-false len 0 parts.0) in
    let fits : n ≤ length (b ∷ bs) = ltb-false (length (b ∷ bs)) n parts.1 in
    let room : 8 + len ≤ n * block = (div_ceil_times (8 + len) block pos).0 in
    let whole : n * block ≤ length (b ∷ bs) * block = mul-le-mul_right block fits in
    let count : length (b ∷ bs) ≡ n + left = omega (arith, length-drop n (b ∷ bs), fits) in
    let bytes : length (b ∷ bs) * block ≡ n * block + left * block = ap (λ c. c * block) count ∙ add-mul n left block in (
      (omega arith, omega (arith, room, whole), some),
      lie_in_more at (at + length (b ∷ bs) * block) (at + n * block) (at + n * block + left * block) (frames_within k block (at + n * block) (drop n (b ∷ bs)))
          (omega arith) (omega (arith, bytes)) (frames_lie k block (at + n * block) (drop n (b ∷ bs)) pos),
    ))

-- the rest of a zone lies within its blocks
rest_lies : (start bytes : ℕ) → AllByRecursion (LiesIn start (start + bytes)) (extent_if_any start bytes)
unfolding LiesIn
rest_lies start bytes =
    frame_lies (bytes == 0) start (start + bytes) (record { start = start; len = bytes }) []
    (λ some. ((omega arith, omega arith, positive bytes (eqb-false bytes 0 some)), tt))

-- an address within so many bytes of a zone
module _ (size zone address : ℕ) (low : zone * size ≤ address) (high : address < zone * size + size) where
  offset : ℕ
  offset = address - zone * size

  is_sum : address ≡ zone * size + offset
  unfolding offset
  is_sum = omega arith

  small : offset < size
  unfolding offset
  small = omega arith

  zone_is : address / size ≡ zone
  zone_is = ap (λ a. a / size) is_sum ∙ div-mul-add zone size offset small

  offset_is : address % size ≡ offset
  offset_is = ap (λ a. a % size) is_sum ∙ mod-mul-add zone size offset small

  -- the offset ends where the address does
  ends : (len bytes : ℕ) → address + len ≤ zone * size + bytes → address % size + len ≤ bytes
  unfolding offset
  ends len bytes end = let is = offset_is in omega (arith, is)

-- no zone has more blocks than its capacity
blocks_fit : (i : Image) (n : ℕ) → IsValidImage i → length (zone_at i n).blocks ≤ i.geometry.capacity
blocks_fit i n is = each i.zones n is.possible.each
  where
    each : (zs : List Zone) (m : ℕ) → All (IsPossibleInfo i.geometry) (map info_of zs) → length (zone_in zs m).blocks ≤ i.geometry.capacity
    each [] m all = omega arith
    each (z ∷ zs) zero all = (All-head (IsPossibleInfo i.geometry) (info_of z) (map info_of zs) all).room
    each (z ∷ zs) (suc m) all = each zs m (All-tail (IsPossibleInfo i.geometry) (info_of z) (map info_of zs) all)

-- the bytes of a zone's blocks lie within the zone
bytes_fit : (i : Image) (n : ℕ) → IsValidImage i → length (zone_at i n).blocks * i.geometry.block ≤ zone_bytes i.geometry
bytes_fit i n is =
    let capacity : i.geometry.capacity ≤ i.geometry.zone_blocks = capacity_fits i.geometry is.possible.valid in
    mul-le-mul_right i.geometry.block (omega (arith, blocks_fit i n is, capacity))
  where
    capacity_fits : (g : Geometry) → is_valid g ≡ true → g.capacity ≤ g.zone_blocks
    capacity_fits g valid = grind (arith, valid)

-- what a recovery point is
record Point (i : Image) (start : ℕ) : Type 0 where
  low : 3 ≤ zone_of i.geometry start
  high : zone_of i.geometry start < i.geometry.zones
  whole : offset_of i.geometry start % i.geometry.block ≡ 0
  within : offset_of i.geometry start ≤ length (zone_at i (zone_of i.geometry start)).blocks * i.geometry.block

point_of : (i : Image) (start : ℕ) → is_recovery_point i start ≡ true → Point i start
point_of i start h =
    let z = zone_of i.geometry start in
    let upper = and_parts (nat_le 3 z && nat_lt z i.geometry.zones && (offset_of i.geometry start % i.geometry.block == 0)) _ h in
    let middle = and_parts (nat_le 3 z && nat_lt z i.geometry.zones) _ upper.0 in
    let first = and_parts (nat_le 3 z) (nat_lt z i.geometry.zones) middle.0 in
    record { low = leb-true 3 z first.0; high = ltb-true z i.geometry.zones first.1; whole = eqb-true _ 0 middle.1; within = leb-true _ _ upper.1 }

-- the blocks from a recovery point on end where the zone's blocks end
from_ends : (i : Image) (start : ℕ) → 0 < i.geometry.block → Point i start
    → start + length (blocks_from i start) * i.geometry.block ≡ zone_of i.geometry start * zone_bytes i.geometry + length (zone_at i (zone_of i.geometry start)).blocks * i.geometry.block
from_ends i start pos p =
    let z = zone_of i.geometry start in
    let o = offset_of i.geometry start in
    let block = i.geometry.block in
    let count = length (zone_at i z).blocks in
    let before = o / block in
    let left = length (blocks_from i start) in
    let address : z * zone_bytes i.geometry + o ≡ start = div-add-mod' start (zone_bytes i.geometry) in
    let split : before * block + o % block ≡ o = div-add-mod' o block in
    let fewer : before ≤ count = div-le_of_le-mul block (omega (arith, p.within, mul_comm count block)) in
    let total : count ≡ before + left = omega (arith, fewer, length-drop before (zone_at i z).blocks) in
    let bytes : count * block ≡ before * block + left * block = ap (λ c. c * block) total ∙ add-mul before left block in
    omega (arith, address, split, p.whole, bytes)

-- an extent behind a recovery point, before the end of the zone's blocks, is written there
lies_written : (i : Image) (start : ℕ) (x : Extent) → IsValidImage i → Point i start
    → LiesIn start (zone_of i.geometry start * zone_bytes i.geometry + length (zone_at i (zone_of i.geometry start)).blocks * i.geometry.block) x
    → IsWrittenIn i (zone_of i.geometry start) x
unfolding LiesIn
lies_written i start x is p lies =
    let z = zone_of i.geometry start in
    let size = zone_bytes i.geometry in
    let bytes = length (zone_at i z).blocks * i.geometry.block in
    let address : z * size + offset_of i.geometry start ≡ start = div-add-mod' start size in
    let fits : bytes ≤ size = bytes_fit i z is in
    let low : z * size ≤ x.start = omega (arith, address, lies.0) in
    let high : x.start < z * size + size = omega (arith, lies.1, lies.2, fits) in
    let zone : zone_of i.geometry x.start ≡ z = zone_is size z x.start low high in
    let end : offset_of i.geometry x.start + x.len ≤ bytes = ends size z x.start low high x.len bytes lies.1 in
    record {
      zone = zone;
      written =
          subst (λ n. nat_le 3 n && nat_lt n i.geometry.zones && nat_le (offset_of i.geometry x.start + x.len) (length (zone_at i n).blocks * i.geometry.block) ≡ true) (sym zone)
          (and_from (nat_le 3 z && nat_lt z i.geometry.zones) _ (and_from (nat_le 3 z) _ (le-leb 3 z p.low) (lt-ltb z i.geometry.zones p.high)) (le-leb _ bytes end));
    }

-- all of them
all_written : (i : Image) (start : ℕ) (xs : List Extent) → IsValidImage i → Point i start
    → AllByRecursion (LiesIn start (zone_of i.geometry start * zone_bytes i.geometry + length (zone_at i (zone_of i.geometry start)).blocks * i.geometry.block)) xs
    → AllByRecursion (IsWrittenIn i (zone_of i.geometry start)) xs
all_written i start [] is p h = tt
all_written i start (x ∷ xs) is p h = (lies_written i start x is p h.0, all_written i start xs is p h.1)

-- the extents behind a recovery point, if it is one
found_if : (unset point sparse : Bool) (P : Extent → Type 0) (frames rest : List Extent) → (point ≡ true → AllByRecursion P frames × AllByRecursion P rest)
    → AllByRecursion P (cond (unset || not point) [] (cond sparse frames rest))
found_if true point sparse P frames rest h = tt
found_if false false sparse P frames rest h = tt
found_if false true true P frames rest h = (h refl).0
found_if false true false P frames rest h = (h refl).1

pub found_is_written : FoundIsWritten
unfolding frames_at
found_is_written i e is =
    found_if (e.active == no_active) (is_recovery_point i e.active) e.sparse (IsWrittenIn i (zone_of i.geometry e.active)) (frames_at i e.active) (rest_at i e.active)
    (λ point.
    let p = point_of i e.active point in
    let pos = some_block i.geometry is.possible.valid in
    let end = from_ends i e.active pos p in (
      all_written i e.active (frames_at i e.active) is p
          (subst (λ to. AllByRecursion (LiesIn e.active to) (frames_at i e.active)) end (frames_lie (length (blocks_from i e.active)) i.geometry.block e.active (blocks_from i e.active) pos)),
      all_written i e.active (rest_at i e.active) is p
          (subst (λ to. AllByRecursion (LiesIn e.active to) (rest_at i e.active)) end (rest_lies e.active (length (blocks_from i e.active) * i.geometry.block))),
    ))

-- Extents that share no byte, piece by piece.
use Rattle.std.specs.Prelude.{◌≡◌, ◌≢◌, ℕ, zero, suc, ◌+◌, ◌*◌, ◌<◌, ◌≤◌, Bool, true, false, ◌&&◌, List, [], ◌∷◌, ◌++◌, length, map, nat_lt, nat_le, refl}
use Rattle.std.proofs.Common.{⊎_elim, arith}
use Rattle.std.proofs.Math.Nat.{mul-le-mul_right, add-mul}
use Rattle.std.proofs.lemmas.Nat.{div-add-mod'}
use Rattle.std.proofs.lemmas.Bool.{leb-true, le-ltb, or_parts, or_from, and_parts, cases_lt}
use Rattle.std.proofs.lemmas.List.Elements.{All-head, All-tail}
use Rattle.std.specs.List.{All, AllByRecursion, list_any}
use Rattle.zone_image.specs.declared.Geometry.{Geometry}
use Rattle.zone_image.specs.Image.{Zone, Image, zone_at, zone_in, zone_of, offset_of, zone_bytes, is_valid}
use Rattle.zone_image.specs.Infos.{info_of, IsPossibleInfo, IsValidImage}
use Rattle.record_model.specs.declared.types.Extent.{Extent}
use Rattle.log_model.specs.Mounted.{is_written, share_a_byte, overlap}

-- none of these shares a byte with one of those
abbrev pub AreApart : List Extent → List Extent → Type 0
AreApart xs ys = AllByRecursion (λ x. list_any (share_a_byte x) ys ≡ false) xs

-- a test of joined lists
any_append : (p : Extent → Bool) (xs ys : List Extent) → list_any p xs ≡ false → list_any p ys ≡ false → list_any p (xs ++ ys) ≡ false
any_append p [] ys h g = g
any_append p (x ∷ xs) ys h g =
    let parts = or_parts (p x) (list_any p xs) h in
    or_from (p x) (list_any p (xs ++ ys)) parts.0 (any_append p xs ys parts.1 g)

any_parts : (p : Extent → Bool) (xs ys : List Extent) → list_any p (xs ++ ys) ≡ false → (list_any p xs ≡ false) × (list_any p ys ≡ false)
any_parts p [] ys h = (refl, h)
any_parts p (x ∷ xs) ys h =
    let parts = or_parts (p x) (list_any p (xs ++ ys)) h in
    let rest = any_parts p xs ys parts.1 in
    (or_from (p x) (list_any p xs) parts.0 rest.0, rest.1)

pub any_both : (x : Extent) (xs ys : List Extent) → list_any (share_a_byte x) xs ≡ false → list_any (share_a_byte x) ys ≡ false → list_any (share_a_byte x) (xs ++ ys) ≡ false
any_both x xs ys h g = any_append (share_a_byte x) xs ys h g

pub any_split : (x : Extent) (xs ys : List Extent) → list_any (share_a_byte x) (xs ++ ys) ≡ false → (list_any (share_a_byte x) xs ≡ false) × (list_any (share_a_byte x) ys ≡ false)
any_split x xs ys h = any_parts (share_a_byte x) xs ys h

-- all of joined lists
pub all_append : (P : Extent → Type 0) (xs ys : List Extent) → AllByRecursion P xs → AllByRecursion P ys → AllByRecursion P (xs ++ ys)
all_append P [] ys h g = g
all_append P (x ∷ xs) ys h g = (h.0, all_append P xs ys h.1 g)

pub all_split : (P : Extent → Type 0) (xs ys : List Extent) → AllByRecursion P (xs ++ ys) → AllByRecursion P xs × AllByRecursion P ys
all_split P [] ys h = (tt, h)
all_split P (x ∷ xs) ys h = let rest = all_split P xs ys h.1 in ((h.0, rest.0), rest.1)

-- joined lists share no byte where neither does, and they are apart
pub join_apart : (xs ys : List Extent) → overlap xs ≡ false → overlap ys ≡ false → AreApart xs ys → overlap (xs ++ ys) ≡ false
join_apart [] ys h g apart = g
join_apart (x ∷ xs) ys h g apart =
    let parts = or_parts (list_any (share_a_byte x) xs) (overlap xs) h in
    or_from (list_any (share_a_byte x) (xs ++ ys)) (overlap (xs ++ ys)) (any_append (share_a_byte x) xs ys parts.0 apart.0) (join_apart xs ys parts.1 g apart.1)

-- and the other way round
pub record Joined (xs ys : List Extent) : Type 0 where
  pub first : overlap xs ≡ false
  pub rest : overlap ys ≡ false
  pub apart : AreApart xs ys

pub split_apart : (xs ys : List Extent) → overlap (xs ++ ys) ≡ false → Joined xs ys
split_apart [] ys h = record { first = refl; rest = h; apart = tt }
split_apart (x ∷ xs) ys h =
    let parts = or_parts (list_any (share_a_byte x) (xs ++ ys)) (overlap (xs ++ ys)) h in
    let here = any_parts (share_a_byte x) xs ys parts.0 in
    let behind = split_apart xs ys parts.1 in
    record {
      first = or_from (list_any (share_a_byte x) xs) (overlap xs) here.0 behind.first;
      rest = behind.rest;
      apart = (here.1, behind.apart);
    }

-- a test of two parts, of which one fails
second_fails : (a b : Bool) → b ≡ false → a && b ≡ false
second_fails true b h = h
second_fails false b h = refl

first_fails : (a b : Bool) → a ≡ false → a && b ≡ false
first_fails true b h = cc
first_fails false b h = refl

-- extents that end where the other begins, or before
pub ends_before : (x y : Extent) → x.start + x.len ≤ y.start → share_a_byte x y ≡ false
ends_before x y h = second_fails (nat_lt x.start (y.start + y.len)) (nat_lt y.start (x.start + x.len)) (le-ltb y.start (x.start + x.len) h)

pub begins_behind : (x y : Extent) → y.start + y.len ≤ x.start → share_a_byte x y ≡ false
begins_behind x y h = first_fails (nat_lt x.start (y.start + y.len)) (nat_lt y.start (x.start + x.len)) (le-ltb x.start (y.start + y.len) h)

-- an extent ends within the zone in which it begins
abbrev pub IsBounded : Geometry → Extent → Type 0
IsBounded g x = x.start + x.len ≤ zone_of g x.start * zone_bytes g + zone_bytes g

-- no zone has more blocks than its capacity
blocks_fit : (i : Image) (n : ℕ) → IsValidImage i → length (zone_at i n).blocks ≤ i.geometry.capacity
blocks_fit i n is = each i.zones n is.possible.each
  where
    each : (zs : List Zone) (m : ℕ) → All (IsPossibleInfo i.geometry) (map info_of zs) → length (zone_in zs m).blocks ≤ i.geometry.capacity
    each [] m all = omega arith
    each (z ∷ zs) zero all = (All-head (IsPossibleInfo i.geometry) (info_of z) (map info_of zs) all).room
    each (z ∷ zs) (suc m) all = each zs m (All-tail (IsPossibleInfo i.geometry) (info_of z) (map info_of zs) all)

-- an extent that is written ends within its zone
pub written_bounded : (i : Image) (x : Extent) → IsValidImage i → is_written i x ≡ true → IsBounded i.geometry x
written_bounded i x is h =
    let g = i.geometry in
    let n = zone_of g x.start in
    let parts = and_parts (nat_le 3 n && nat_lt n g.zones) (nat_le (offset_of g x.start + x.len) (length (zone_at i n).blocks * g.block)) h in
    let end : offset_of g x.start + x.len ≤ length (zone_at i n).blocks * g.block = leb-true _ _ parts.1 in
    let capacity : g.capacity ≤ g.zone_blocks = capacity_fits g is.possible.valid in
    let fits : length (zone_at i n).blocks * g.block ≤ zone_bytes g = mul-le-mul_right g.block (omega (arith, blocks_fit i n is, capacity)) in
    let address : n * zone_bytes g + offset_of g x.start ≡ x.start = div-add-mod' x.start (zone_bytes g) in
    omega (arith, end, fits, address)
  where
    capacity_fits : (h : Geometry) → is_valid h ≡ true → h.capacity ≤ h.zone_blocks
    capacity_fits h valid = grind (arith, valid)

-- one zone ends before a later one begins
zone_before : (size a b : ℕ) → a < b → a * size + size ≤ b * size
zone_before size a b h =
    let more : (a + 1) * size ≤ b * size = mul-le-mul_right size (omega (arith, h)) in
    let product : (a + 1) * size ≡ a * size + 1 * size = add-mul a 1 size in
    omega (arith, more, product)

-- two extents of two zones
pub zones_apart : (g : Geometry) (x y : Extent) → IsBounded g x → IsBounded g y → zone_of g x.start ≢ zone_of g y.start → share_a_byte x y ≡ false
zones_apart g x y low high other =
    let a = zone_of g x.start in
    let b = zone_of g y.start in
    let size = zone_bytes g in
    let here : a * size + offset_of g x.start ≡ x.start = div-add-mod' x.start size in
    let there : b * size + offset_of g y.start ≡ y.start = div-add-mod' y.start size in
    ⊎_elim
    (λ less. ends_before x y (omega (arith, zone_before size a b less, low, there)))
    (λ more. begins_behind x y (omega (arith, zone_before size b a (below a b other more), high, here)))
    (cases_lt a b)
  where
    below : (m n : ℕ) → m ≢ n → n ≤ m → n < m
    below m n other le = ⊎_elim (λ less. less) (λ ge. absurd (other (omega (arith, le, ge)))) (cases_lt n m)

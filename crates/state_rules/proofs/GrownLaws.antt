-- Extents of which one more stands among them, or one is longer.
use Rattle.std.specs.Prelude.{◌≡◌, ℕ, ◌+◌, ◌*◌, ◌<◌, ◌≤◌, Bool, true, false, ◌&&◌, List, [], ◌∷◌, ◌++◌, nat_lt, ◌==◌, if◌then◌else◌, IsTrue, refl}
use Rattle.std.proofs.Common.{ap, sym, ⊎_elim, inl, inr, arith}
use mathlib.Core.Logic.{◌⊎◌}
use Rattle.std.proofs.Math.Nat.{mul-le-mul_right}
use Rattle.std.proofs.lemmas.Nat.{div-add-mod'}
use Rattle.std.proofs.lemmas.Bool.{eqb-true, eqb-false, ltb-false, or_parts, or_from}
use Rattle.std.specs.List.{AllByRecursion, list_any}
use Rattle.zone_image.specs.declared.Geometry.{Geometry}
use Rattle.zone_image.specs.Image.{is_valid, zone_of, offset_of, zone_bytes}
use Rattle.record_model.specs.declared.types.Extent.{Extent}
use Rattle.log_model.specs.Mounted.{share_a_byte, overlap}
use Rattle.fs_model.specs.FileSteps.{extents_with}
use Rattle.least_crash.proofs.Apart.{IsBounded, ends_before, begins_behind, zones_apart}
use Rattle.state_rules.specs.Rules.{LiesInZone}

-- an extent with another behind it
abbrev pub longer : Extent → Extent → Extent
longer y x = record y { len = y.len + x.len }

-- with this extent somewhere among them, or behind one that ends where it begins
pub data Grown : Geometry → Extent → List Extent → List Extent → Type 0 where
  insert : {g : Geometry} {x : Extent} {ys : List Extent} → Grown g x ys (x ∷ ys)
  merge : {g : Geometry} {x y : Extent} {ys : List Extent} → zone_of g y.start ≡ zone_of g x.start → y.start + y.len ≡ x.start → Grown g x (y ∷ ys) (longer y x ∷ ys)
  later : {g : Geometry} {x y : Extent} {ys zs : List Extent} → Grown g x ys zs → Grown g x (y ∷ ys) (y ∷ zs)

pub grown_front : {g : Geometry} {x : Extent} {ys zs : List Extent} (front : List Extent) → Grown g x ys zs → Grown g x (front ++ ys) (front ++ zs)
grown_front [] h = h
grown_front (f ∷ fs) h = later (grown_front fs h)

-- an extent that is noted behind those of its zone
pub grown_noted : (g : Geometry) (x : Extent) (us rest : List Extent) → AllByRecursion (λ y. zone_of g y.start ≡ zone_of g x.start) us → Grown g x (us ++ rest) (extents_with us x ++ rest)
grown_noted g x [] rest same = insert
grown_noted g x (y ∷ []) rest same = by (y.start + y.len == x.start) refl
  where
    by : (b : Bool) → (y.start + y.len == x.start) ≡ b → Grown g x (y ∷ rest) ((if b then (record y { len = y.len + x.len }) ∷ [] else y ∷ x ∷ []) ++ rest)
    by true meets = merge same.0 (eqb-true (y.start + y.len) x.start meets)
    by false apart = later insert
grown_noted g x (y ∷ z ∷ zs) rest same = later (grown_noted g x (z ∷ zs) rest same.1)

-- ---- where they lie

joined_within : (size zone oy ox leny lenx bytes : ℕ) → zone * size + oy + leny ≡ zone * size + ox → ox + lenx ≤ bytes → oy + (leny + lenx) ≤ bytes
joined_within size zone oy ox leny lenx bytes meets fits = omega (arith, meets, fits)

longer_lies : (g : Geometry) (x y : Extent) → zone_of g y.start ≡ zone_of g x.start → y.start + y.len ≡ x.start → LiesInZone g x → LiesInZone g y → LiesInZone g (longer y x)
longer_lies g x y same meets here there =
    let size = zone_bytes g in
    let low : zone_of g y.start * size + offset_of g y.start ≡ y.start = div-add-mod' y.start size in
    let high : zone_of g x.start * size + offset_of g x.start ≡ x.start = div-add-mod' x.start size in
    let zones : zone_of g y.start * size ≡ zone_of g x.start * size = ap (λ n. n * size) same in
    record {
      low = there.low;
      high = there.high;
      some = omega (arith, there.some);
      within =
          joined_within size (zone_of g y.start) (offset_of g y.start) (offset_of g x.start) y.len x.len (g.capacity * g.block)
          (omega (arith, low, high, zones, meets)) here.within;
    }

pub lie_grown : {g : Geometry} {x : Extent} {ys zs : List Extent} → Grown g x ys zs → LiesInZone g x → AllByRecursion (LiesInZone g) ys → AllByRecursion (LiesInZone g) zs
lie_grown insert here h = (here, h)
lie_grown (merge {g = g} {x = x} {y = y} same meets) here h = (longer_lies g x y same meets here h.0, h.1)
lie_grown (later grown) here h = (h.0, lie_grown grown here h.1)

-- ---- what they share

-- two extents that share no byte: one ends at or before the other begins
abbrev Ends : Extent → Extent → Type 0
Ends a b = (b.start + b.len ≤ a.start) ⊎ (a.start + a.len ≤ b.start)

ends : (a b : Extent) → share_a_byte a b ≡ false → Ends a b
ends a b h = by (nat_lt a.start (b.start + b.len)) refl h
  where
    by : (first : Bool) → nat_lt a.start (b.start + b.len) ≡ first → first && nat_lt b.start (a.start + a.len) ≡ false → (b.start + b.len ≤ a.start) ⊎ (a.start + a.len ≤ b.start)
    by false is none = inl (ltb-false a.start (b.start + b.len) is)
    by true is none = inr (ltb-false b.start (a.start + a.len) none)

apart_by : (a b : Extent) → Ends a b → share_a_byte a b ≡ false
apart_by a b h = ⊎_elim (λ before. begins_behind a b before) (λ behind. ends_before a b behind) h

-- the other way round
pub share_back : (a b : Extent) → share_a_byte a b ≡ false → share_a_byte b a ≡ false
share_back a b h = ⊎_elim (λ before. ends_before b a before) (λ behind. begins_behind b a behind) (ends a b h)

-- apart from two extents that meet, and so from both as one
joined : (w y x : Extent) → 0 < w.len → y.start + y.len ≡ x.start → share_a_byte w y ≡ false → share_a_byte w x ≡ false → share_a_byte w (longer y x) ≡ false
joined w y x some meets first second =
    ⊎_elim
    (λ before. ⊎_elim
    (λ both. apart_by w (longer y x) (inl (omega (arith, both, meets))))
    (λ between. absurd (omega (arith, before, between, meets, some))) (ends w x second))
    (λ behind. apart_by w (longer y x) (inr behind)) (ends w y first)

-- what shares no byte with these, nor with the new one
any_grown : {g : Geometry} {x : Extent} {ys zs : List Extent} (w : Extent) → Grown g x ys zs → 0 < w.len → share_a_byte w x ≡ false → list_any (share_a_byte w) ys ≡ false → list_any (share_a_byte w) zs ≡ false
any_grown w (insert {x = x} {ys = ys}) some apart h = or_from (share_a_byte w x) (list_any (share_a_byte w) ys) apart h
any_grown w (merge {x = x} {y = y} {ys = ys} same meets) some apart h =
    let parts = or_parts (share_a_byte w y) (list_any (share_a_byte w) ys) h in
    or_from (share_a_byte w (longer y x)) (list_any (share_a_byte w) ys) (joined w y x some meets parts.0 apart) parts.1
any_grown w (later {y = y} {ys = ys} {zs = zs} grown) some apart h =
    let parts = or_parts (share_a_byte w y) (list_any (share_a_byte w) ys) h in
    or_from (share_a_byte w y) (list_any (share_a_byte w) zs) parts.0 (any_grown w grown some apart parts.1)

-- an extent shares no byte with any of these
none_shared : (x : Extent) (ys : List Extent) → AllByRecursion (λ y. share_a_byte x y ≡ false) ys → list_any (share_a_byte x) ys ≡ false
none_shared x [] h = refl
none_shared x (y ∷ ys) h = or_from (share_a_byte x y) (list_any (share_a_byte x) ys) h.0 (none_shared x ys h.1)

-- nor does one that is longer by it
none_longer : (y x : Extent) (zs : List Extent) → y.start + y.len ≡ x.start → list_any (share_a_byte y) zs ≡ false → AllByRecursion (λ z. share_a_byte x z ≡ false) zs → AllByRecursion (λ z. 0 < z.len) zs
    → list_any (share_a_byte (longer y x)) zs ≡ false
none_longer y x [] meets h apart some = refl
none_longer y x (z ∷ zs) meets h apart some =
    let parts = or_parts (share_a_byte y z) (list_any (share_a_byte y) zs) h in
    or_from (share_a_byte (longer y x) z) (list_any (share_a_byte (longer y x)) zs)
    (share_back z (longer y x) (joined z y x some.0 meets (share_back y z parts.0) (share_back x z apart.0))) (none_longer y x zs meets parts.1 apart.1 some.1)

pub apart_grown : {g : Geometry} {x : Extent} {ys zs : List Extent} → Grown g x ys zs → AllByRecursion (λ y. share_a_byte x y ≡ false) ys → AllByRecursion (λ y. 0 < y.len) ys → overlap ys ≡ false → overlap zs ≡ false
apart_grown (insert {x = x} {ys = ys}) apart some h = or_from (list_any (share_a_byte x) ys) (overlap ys) (none_shared x ys apart) h
apart_grown (merge {x = x} {y = y} {ys = ys} same meets) apart some h =
    let parts = or_parts (list_any (share_a_byte y) ys) (overlap ys) h in
    or_from (list_any (share_a_byte (longer y x)) ys) (overlap ys) (none_longer y x ys meets parts.0 apart.1 some.1) parts.1
apart_grown (later {x = x} {y = y} {ys = ys} {zs = zs} grown) apart some h =
    let parts = or_parts (list_any (share_a_byte y) ys) (overlap ys) h in
    or_from (list_any (share_a_byte y) zs) (overlap zs) (any_grown y grown some.0 (share_back x y apart.0) parts.0) (apart_grown grown apart.1 some.1 parts.1)

-- ---- an extent behind all that lies in its zone

-- an extent that lies in the part of a zone that may be written ends within the zone
pub lies_bounded : (g : Geometry) (x : Extent) → IsTrue (is_valid g) → LiesInZone g x → IsBounded g x
lies_bounded g x valid h =
    let fits : g.capacity * g.block ≤ zone_bytes g = mul-le-mul_right g.block (capacity_fits g valid) in
    let address : zone_of g x.start * zone_bytes g + offset_of g x.start ≡ x.start = div-add-mod' x.start (zone_bytes g) in
    let within = h.within in
    omega (arith, within, fits, address)
  where
    capacity_fits : (k : Geometry) → is_valid k ≡ true → k.capacity ≤ k.zone_blocks
    capacity_fits k valid = grind (arith, valid)

pub behind_all : (g : Geometry) (x : Extent) (ys : List Extent) → IsTrue (is_valid g) → LiesInZone g x → AllByRecursion (LiesInZone g) ys
    → AllByRecursion (λ y. zone_of g y.start ≡ zone_of g x.start → y.start + y.len ≤ x.start) ys → AllByRecursion (λ y. share_a_byte x y ≡ false) ys
behind_all g x [] valid here lie behind = tt
behind_all g x (y ∷ ys) valid here lie behind = (by (zone_of g y.start == zone_of g x.start) refl, behind_all g x ys valid here lie.1 behind.1)
  where
    by : (b : Bool) → (zone_of g y.start == zone_of g x.start) ≡ b → share_a_byte x y ≡ false
    by true same = begins_behind x y (behind.0 (eqb-true (zone_of g y.start) (zone_of g x.start) same))
    by false other = zones_apart g x y (lies_bounded g x valid here) (lies_bounded g y valid lie.0) (λ same. eqb-false (zone_of g y.start) (zone_of g x.start) other (sym same))

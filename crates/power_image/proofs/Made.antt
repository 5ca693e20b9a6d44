-- A new image: what its descriptors say.
use Rattle.std.proofs.Common.{◌≡◌, ℕ, zero, suc, ◌+◌, ◌-◌, ◌*◌, ◌<◌, ◌≤◌, ⊎_elim, Bool, true, not, ◌&&◌, ◌||◌, ◌==◌, List, [], ◌∷◌, length, map, replicate, get_or, set, take, drop, refl, sym, ◌∙◌, ap, arith, IsTrue, length-take, length-append, length-drop}
use Rattle.std.specs.Prelude.{nat_le}
use Rattle.std.specs.List.{list_all}
use Rattle.std.proofs.lemmas.Bool.{cases_eq, le-leb}
use Rattle.std.proofs.lemmas.Bool.Decides.{nat_tests}
use Rattle.std.proofs.lemmas.List.{drop-drop, drop-append-le, drop-replicate, drop-set, drop-set-lt, drop-set-add, ext_get_or, length-replicate, length-set, take-append-le, take-replicate, take-set-le, take_at}
use Rattle.zone_image.specs.declared.Geometry.{Geometry}
use Rattle.zone_image.specs.Image.{Zone, Image, no_zone, is_valid}
use Rattle.zone_image.specs.Changes.{blank}
use Rattle.image_backend.specs.Contents.{patched, resized}
use Rattle.image_backend.specs.Format.{page, header_size, geometry_in, geometry_of}
use Rattle.image_backend.specs.Table.{no_slot, table_blank}
use Rattle.image_backend.specs.FileImage.{zones_there, image_with}
use Rattle.power_image.specs.declared.descriptor.Descriptor.{Descriptor}
use Rattle.power_image.specs.Layout.{zones_at, image_bytes, descriptor_at, header_bytes, is_header}
use Rattle.power_image.specs.Descriptors.{blank_bytes, descriptors_in, is_descriptor, said_in}
use Rattle.power_image.specs.Making.{with_gates, blank_front, new_image}
use Rattle.power_image.specs.Table.{no_descriptor, image_in, zones_alone, Describes}
use Rattle.power_image.proofs.Bytes.{behind_same, from_piece, patched_outside, length_patched}
use Rattle.power_image.proofs.Described.{both, descriptor_by_number, length-descriptors}
use Rattle.power_image.proofs.Headers.{header_is, header_geometry, length-header}

length-gates : (n : ℕ) (bytes : List ℕ) → length (with_gates n bytes) ≡ length bytes
length-gates zero bytes = refl
length-gates (suc n) bytes = length-set (with_gates n bytes) (4064 + n * 32) 165 ∙ length-gates n bytes

-- behind the gates nothing changes
behind_gates : (n p : ℕ) (bytes : List ℕ) → 4064 + n * 32 ≤ p → drop p (with_gates n bytes) ≡ drop p bytes
behind_gates zero p bytes le = refl
behind_gates (suc n) p bytes le = drop-set-lt p (with_gates n bytes) (4064 + n * 32) 165 (omega (arith, le)) ∙ behind_gates n p bytes (omega (arith, le))

-- the gate that is opened last
last_gate : (n size : ℕ) → 4064 + suc n * 32 ≤ size → take 32 (drop (4064 + n * 32) (with_gates (suc n) (replicate size 0))) ≡ blank_bytes
last_gate n size room =
    let at = 4064 + n * 32 in
    let zeros = replicate size 0 in
    let in_range : at < length (with_gates n zeros) = omega (arith, room, length-gates n zeros, length-replicate {A = ℕ} size 0) in
    let left : 31 ≤ size - (at + 1) = omega (arith, room) in
    ap (take 32) (drop-set (with_gates n zeros) at 165 in_range)
    ∙ ap (λ (l : List ℕ). 165 ∷ take 31 l) (behind_gates n (at + 1) zeros (omega arith) ∙ drop-replicate (at + 1) size 0)
    ∙ ap (λ (l : List ℕ). 165 ∷ l) (take-replicate 31 (size - (at + 1)) 0 left)

-- each descriptor is that of an empty zone
each_gate : (n m size : ℕ) → m < n → 4064 + n * 32 ≤ size → take 32 (drop (4064 + m * 32) (with_gates n (replicate size 0))) ≡ blank_bytes
each_gate zero m size below room = absurd (omega (arith, below))
each_gate (suc n) m size below room = ⊎_elim
    (λ is. ap (λ k. take 32 (drop (4064 + k * 32) (with_gates (suc n) (replicate size 0)))) is ∙ last_gate n size room)
    (λ differs.
    let before : m < n = omega (arith, below, differs) in
    let at = 4064 + m * 32 in
    let i = (n - m) * 32 in
    let gate : 4064 + n * 32 ≡ at + i = omega (arith, before) in
    let far : 32 ≤ i = omega (arith, before) in
    ap (λ k. take 32 (drop at (set (with_gates n (replicate size 0)) k 165))) gate
    ∙ ap (take 32) (drop-set-add at (with_gates n (replicate size 0)) i 165)
    ∙ take-set-le 32 (drop at (with_gates n (replicate size 0))) i 165 far
    ∙ each_gate n m size before (omega (arith, room)))
    (cases_eq m n)

-- the parts of a new image
module _ (g : Geometry) (valid : IsTrue (is_valid g)) (old : List ℕ) where
  abbrev front : List ℕ
  front = blank_front g

  abbrev base : List ℕ
  base = resized (image_bytes g) old

  abbrev mid : List ℕ
  mid = patched header_size front base

  places : page + g.zones * 32 ≤ zones_at g
  unfolding zones_at
  places = omega arith

  length-front : length front ≡ zones_at g - header_size
  length-front = length-gates g.zones (replicate (zones_at g - header_size) 0) ∙ length-replicate {A = ℕ} (zones_at g - header_size) 0

  length-base : length base ≡ image_bytes g
  length-base = omega (
    arith,
    length-append (take (image_bytes g) old) (replicate (image_bytes g - length old) 0),
    length-take (image_bytes g) old,
    length-replicate {A = ℕ} (image_bytes g - length old) 0,
  )

  front_fits : header_size + length front ≤ length base
  front_fits = omega (arith, length-base, length-front, places)

  length-mid : length mid ≡ image_bytes g
  length-mid = length_patched header_size front base front_fits ∙ length-base

  header_fits : 0 + length (header_bytes g) ≤ length mid
  header_fits = omega (arith, length-mid, length-header g, places)

  length-new : length (new_image g old) ≡ image_bytes g
  length-new = length_patched 0 (header_bytes g) mid header_fits ∙ length-mid

  front_new : take header_size (new_image g old) ≡ header_bytes g
  front_new = ap (take header_size) (from_piece 0 (header_bytes g) mid header_fits) ∙ take_at (header_bytes g) (drop (0 + length (header_bytes g)) mid) header_size (length-header g)

  descriptor_new : (m : ℕ) → m < g.zones → take 32 (drop (descriptor_at m) (new_image g old)) ≡ blank_bytes
  descriptor_new m in_range =
      let behind : 0 + length (header_bytes g) ≤ descriptor_at m = omega (arith, length-header g) in
      let place : header_size + (4064 + m * 32) ≡ descriptor_at m = omega arith in
      let enough : 4064 + m * 32 ≤ length front = omega (arith, places, length-front, in_range) in
      let left : 32 ≤ length (drop (4064 + m * 32) front) = omega (arith, places, length-front, in_range, length-drop (4064 + m * 32) front) in
      let room : 4064 + g.zones * 32 ≤ zones_at g - header_size = omega (arith, places) in
      ap (take 32)
      (behind_same (patched_outside 0 (header_bytes g) mid header_fits) (descriptor_at m) behind
      ∙ ap (λ k. drop k mid) (sym place)
      ∙ sym (drop-drop (4064 + m * 32) header_size mid)
      ∙ ap (drop (4064 + m * 32)) (from_piece header_size front base front_fits)
      ∙ drop-append-le (4064 + m * 32) front (drop (header_size + length front) base) enough)
      ∙ take-append-le 32 (drop (4064 + m * 32) front) (drop (header_size + length front) base) left
      ∙ each_gate g.zones m (zones_at g - header_size) in_range room

  get_blank : (n m : ℕ) → m < n → get_or (replicate n blank_bytes) m [] ≡ blank_bytes
  get_blank zero m below = absurd (omega (arith, below))
  get_blank (suc n) zero below = refl
  get_blank (suc n) (suc m) below = get_blank n m (omega (arith, below))

  descriptors_new : descriptors_in g (new_image g old) ≡ replicate g.zones blank_bytes
  descriptors_new =
      ext_get_or [] (descriptors_in g (new_image g old)) (replicate g.zones blank_bytes) (omega (arith, length-descriptors g (new_image g old), length-replicate {A = List ℕ} g.zones blank_bytes))
      (λ m lt.
      let in_range : m < g.zones = omega (arith, lt, length-descriptors g (new_image g old)) in
      descriptor_by_number g (new_image g old) m in_range ∙ descriptor_new m in_range ∙ sym (get_blank g.zones m in_range))

list_all-replicate : (p : List ℕ → Bool) (n : ℕ) (x : List ℕ) → p x ≡ true → list_all p (replicate n x) ≡ true
list_all-replicate p zero x one = refl
list_all-replicate p (suc n) x one = both (p x) (list_all p (replicate n x)) one (list_all-replicate p n x one)

map-replicate : (f : List ℕ → Descriptor) (n : ℕ) (x : List ℕ) → map f (replicate n x) ≡ replicate n (f x)
map-replicate f zero x = refl
map-replicate f (suc n) x = ap (λ (l : List Descriptor). f x ∷ l) (map-replicate f n x)

said_blank : said_in blank_bytes ≡ no_descriptor
unfolding said_in
said_blank = refl

none_possible : (capacity : ℕ) → 8 ≤ capacity → (nat_le 0 capacity && nat_le 0 1 && (not (0 == capacity) || (0 == 1))) ≡ true
none_possible capacity least = grind (arith, nat_tests)

right_blank : (g : Geometry) → IsTrue (is_valid g) → is_descriptor g blank_bytes ≡ true
unfolding is_descriptor
right_blank g valid = none_possible g.capacity (grind (arith, nat_tests, valid))

-- a new image says that its zones are empty
pub described_new : (g : Geometry) (old : List ℕ) → IsTrue (is_valid g) → Describes (new_image g old) g (replicate g.zones no_descriptor)
described_new g old valid =
    let new = new_image g old in
    let first = front_new g valid old in
    let shape : geometry_of new ≡ g = ap geometry_in first ∙ header_geometry g valid in
    let descriptors = descriptors_new g valid old in
    record {
      header =
          both (nat_le page (length new) && is_header (take header_size new)) (nat_le (image_bytes (geometry_of new)) (length new))
          (both (nat_le page (length new)) (is_header (take header_size new)) (le-leb page (length new) (omega (arith, length-new g valid old, places g valid old))) (ap is_header first ∙ header_is g valid))
          (ap (λ k. nat_le (image_bytes k) (length new)) shape ∙ le-leb (image_bytes g) (length new) (omega (arith, length-new g valid old)));
      shape = shape;
      right = ap (list_all (is_descriptor g)) descriptors ∙ list_all-replicate (is_descriptor g) g.zones blank_bytes (right_blank g valid);
      said = ap (map said_in) descriptors ∙ map-replicate said_in g.zones blank_bytes ∙ ap (replicate g.zones) said_blank;
    }

blank_zones : (g : Geometry) (bytes : List ℕ) (n k : ℕ) → zones_there g bytes n (replicate k no_slot) ≡ replicate k no_zone
blank_zones g bytes n zero = refl
blank_zones g bytes n (suc k) = ap (λ (zs : List Zone). no_zone ∷ zs) (blank_zones g bytes (suc n) k)

abbrev with_zones : Geometry → List Zone → Image
with_zones g zones = record { geometry = g; zones = zones }

-- without blocks the bytes don't matter
pub image_blank : (g : Geometry) (bytes : List ℕ) → image_in (table_blank g) bytes ≡ blank g
unfolding image_with
image_blank g bytes = ap (with_zones g) (blank_zones g (zones_alone g bytes) 0 g.zones)

past_page : (g : Geometry) → page + g.zones * 32 ≤ zones_at g
unfolding zones_at
past_page g = omega arith

-- what stands between the header and the zones fills the place
pub blank_long : (g : Geometry) → header_size + length (blank_front g) ≡ zones_at g
blank_long g = omega (arith, length-gates g.zones (replicate (zones_at g - header_size) 0), length-replicate {A = ℕ} (zones_at g - header_size) 0, past_page g)

-- and has room for all gates
pub gates_fit : (g : Geometry) → 4064 + g.zones * 32 ≤ zones_at g - header_size
gates_fit g = omega (arith, past_page g)

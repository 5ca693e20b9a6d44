-- A file whose header and descriptors say what is known of its zones, and what writes leave of that.
use Rattle.std.proofs.Common.{◌≡◌, ℕ, zero, suc, ◌+◌, ◌-◌, ◌*◌, ◌^◌, ◌<◌, ◌≤◌, ◌≢◌, ⊎_elim, Bool, true, false, ◌&&◌, List, [], ◌∷◌, ◌++◌, length, map, replicate, get_or, set, take, drop, refl, sym, ◌∙◌, ap, arith, IsTrue, length-take}
use Rattle.std.specs.Prelude.{nat_le, Option, None, Some, IsSome}
use Rattle.std.specs.List.{list_all}
use Rattle.std.proofs.lemmas.Bool.{cases_eq, cases_lt, le-leb}
use Rattle.std.proofs.lemmas.List.{drop-drop, drop-append-le, drop-replicate, ext_get_or, get_or-set_other, get_or-set_same, length-append, length-replicate, length-set, map-set, take-append-le, take-replicate, take-take, take_at}
use Rattle.zone_image.specs.declared.Geometry.{Geometry}
use Rattle.zone_image.specs.declared.ZoneInfo.{ZoneInfo}
use Rattle.zone_image.specs.Image.{Zone, Image, no_zone, is_valid}
use Rattle.zone_image.specs.Changes.{chunks, zone_synced, synced, blank}
use Rattle.zone_image.specs.Infos.{active_zones, IsPossibleInfo}
use Rattle.zone_image.proofs.BlockLaws.{chunks-take, length-chunks}
use Rattle.image_backend.specs.declared.table.Slot.{Slot}
use Rattle.image_backend.specs.Contents.{patched, resized, SameOutside}
use Rattle.image_backend.specs.Format.{page, zones_at, image_bytes, descriptor_at, descriptor_bytes, header_bytes, header_size, geometry_in, is_header, info_in, is_descriptor, geometry_of, descriptors_in, are_possible, has_header, is_image, new_image}
use Rattle.image_backend.specs.Table.{TableState, no_slot, slot_of, slot_info, with_slot, table_infos, table_blank, table_of, table_in, table_synced, IsTable}
use Rattle.image_backend.specs.FileImage.{zones_there, image_with, found_image, standing_image, Describes, IsDescribedIn}
use Rattle.image_backend.proofs.Bytes.{before_same, behind_same, from_piece, patched_outside, length_patched}
use Rattle.image_backend.proofs.Descriptors.{shifted}
use Rattle.image_backend.proofs.FileChanges.{image_synced}
use Rattle.image_backend.proofs.FileZones.{slots_as_found}
use Rattle.image_backend.proofs.Headers.{header_is, header_geometry, length-header, length-descriptor, info_written, descriptor_possible, info_of_zeros, zeros_possible, small_capacity, capacity_fits}
use Rattle.image_backend.proofs.Tables.{infos_with_blank, infos_with_synced, table_with_blank}

both : (a b : Bool) → a ≡ true → b ≡ true → (a && b) ≡ true
both a b first second = ap (λ x. x && b) first ∙ second

first_true : (a b : Bool) → (a && b) ≡ true → a ≡ true
first_true true b h = refl
first_true false b h = h

second_true : (a b : Bool) → (a && b) ≡ true → b ≡ true
second_true true b h = h
second_true false b h = cc

-- the test of a header, by the first bytes of a file and its length
abbrev header_right : List ℕ → ℕ → Bool
header_right front count = nat_le page count && is_header front && nat_le (image_bytes (geometry_in front)) count

header_same : (old new : List ℕ) → take header_size new ≡ take header_size old → length new ≡ length old → has_header new ≡ has_header old
header_same old new front long = ap (λ (l : List ℕ). header_right l (length new)) front ∙ ap (header_right (take header_size old)) long

-- what is described, by the bytes in front of the zones
described_by : (t : TableState) (old new : List ℕ) → take header_size new ≡ take header_size old → length new ≡ length old → descriptors_in t.geometry new ≡ descriptors_in t.geometry old
    → Describes old t → Describes new t
described_by t old new front long same was = record {
  header = header_same old new front long ∙ was.header;
  shape = ap geometry_in front ∙ was.shape;
  possible = ap (list_all (is_descriptor t.geometry)) same ∙ was.possible;
  said = ap (map info_in) same ∙ was.said;
}

front_same : {at count : ℕ} {old new : List ℕ} → SameOutside at count old new → header_size ≤ at → take header_size new ≡ take header_size old
front_same {at} {count} {old} {new} same behind = sym (take-take header_size at new behind) ∙ ap (take header_size) same.before ∙ take-take header_size at old behind

-- a write behind the descriptors
pub described_behind : (t : TableState) {at count : ℕ} {old new : List ℕ} → SameOutside at count old new → zones_at t.geometry ≤ at → Describes old t → Describes new t
unfolding zones_at
described_behind t {at} {count} {old} {new} same behind was =
    described_by t old new (front_same same (omega arith)) same.long
    (ap (chunks 8 t.geometry.zones) (before_same same page (t.geometry.zones * 8) (omega arith))) was

-- a piece of whole blocks, by number
get_or-chunks : (block n m : ℕ) (xs : List ℕ) → m < n → get_or (chunks block n xs) m [] ≡ take block (drop (m * block) xs)
get_or-chunks block zero m xs in_range = absurd (omega arith)
get_or-chunks block (suc n) zero xs in_range =
    let none : 0 * block ≡ 0 = omega arith in
    sym (ap (λ k. take block (drop k xs)) none)
get_or-chunks block (suc n) (suc m) xs in_range = get_or-chunks block n m (drop block xs) (omega arith) ∙ ap (take block) (shifted m block xs)

descriptors_are : (g : Geometry) (bytes : List ℕ) → descriptors_in g bytes ≡ chunks 8 g.zones (drop page bytes)
descriptors_are g bytes = chunks-take 8 g.zones (drop page bytes)

-- one descriptor, by number
descriptor_in : (g : Geometry) (bytes : List ℕ) (m : ℕ) → m < g.zones → get_or (descriptors_in g bytes) m [] ≡ take 8 (drop (descriptor_at m) bytes)
descriptor_in g bytes m in_range =
    let place : page + m * 8 ≡ descriptor_at m = omega arith in
    ap (λ (l : List (List ℕ)). get_or l m []) (descriptors_are g bytes) ∙ get_or-chunks 8 g.zones m (drop page bytes) in_range ∙ ap (take 8) (drop-drop (m * 8) page bytes)
    ∙ ap (λ k. take 8 (drop k bytes)) place

length-descriptors : (g : Geometry) (bytes : List ℕ) → length (descriptors_in g bytes) ≡ g.zones
length-descriptors g bytes = length-chunks 8 g.zones (take (g.zones * 8) (drop page bytes))

-- after a write of one descriptor
module _ (g : Geometry) (zone : ℕ) (piece old : List ℕ) (eight : length piece ≡ 8) (fits : descriptor_at zone + length piece ≤ length old) where
  abbrev new : List ℕ
  new = patched (descriptor_at zone) piece old

  outside : SameOutside (descriptor_at zone) (length piece) old new
  outside = patched_outside (descriptor_at zone) piece old fits

  here : take 8 (drop (descriptor_at zone) new) ≡ piece
  here = ap (take 8) (from_piece (descriptor_at zone) piece old fits) ∙ take_at piece (drop (descriptor_at zone + length piece) old) 8 eight

  other : (m : ℕ) → m ≢ zone → take 8 (drop (descriptor_at m) new) ≡ take 8 (drop (descriptor_at m) old)
  other m differs = ⊎_elim
      (λ before. before_same outside (descriptor_at m) 8 (omega arith))
      (λ behind. ap (take 8) (behind_same outside (descriptor_at m) (omega arith)))
      (cases_lt m zone)

  pub descriptors_set : descriptors_in g new ≡ set (descriptors_in g old) zone piece
  descriptors_set =
      ext_get_or [] (descriptors_in g new) (set (descriptors_in g old) zone piece) (omega (arith, length-descriptors g new, length-descriptors g old, length-set (descriptors_in g old) zone piece))
      (λ m lt. each m (omega (arith, lt, length-descriptors g new)))
    where
      each : (m : ℕ) → m < g.zones → get_or (descriptors_in g new) m [] ≡ get_or (set (descriptors_in g old) zone piece) m []
      each m in_range = descriptor_in g new m in_range ∙ ⊎_elim
          (λ same.
          let there : zone < length (descriptors_in g old) = omega (arith, same, in_range, length-descriptors g old) in
          ap (λ k. take 8 (drop (descriptor_at k) new)) same ∙ here ∙ sym (get_or-set_same (descriptors_in g old) zone piece [] there) ∙ ap (λ k. get_or (set (descriptors_in g old) zone piece) k []) (sym same))
          (λ differs. other m differs ∙ sym (descriptor_in g old m in_range) ∙ sym (get_or-set_other (descriptors_in g old) zone m piece [] differs))
          (cases_eq m zone)

list_all-set : {A : Type 0} (p : A → Bool) (xs : List A) (n : ℕ) (x : A) → list_all p xs ≡ true → p x ≡ true → list_all p (set xs n x) ≡ true
list_all-set p [] n x all one = refl
list_all-set p (y ∷ ys) zero x all one = both (p x) (list_all p ys) one (second_true (p y) (list_all p ys) all)
list_all-set p (y ∷ ys) (suc n) x all one = both (p y) (list_all p (set ys n x)) (first_true (p y) (list_all p ys) all) (list_all-set p ys n x (second_true (p y) (list_all p ys) all) one)

-- a descriptor that was written says the new numbers of its zone
pub described_slot : (t : TableState) (zone : ℕ) (s : Slot) (old : List ℕ) → IsTrue (is_valid t.geometry) → zone < t.geometry.zones → image_bytes t.geometry ≤ length old
    → IsPossibleInfo t.geometry (slot_info s) → Describes old t → Describes (patched (descriptor_at zone) (descriptor_bytes (slot_info s)) old) (with_slot t zone s)
unfolding zones_at
described_slot t zone s old valid in_range long is was =
    let g = t.geometry in
    let piece = descriptor_bytes (slot_info s) in
    let eight = length-descriptor (slot_info s) in
    let fits : descriptor_at zone + length piece ≤ length old = omega (arith, eight, long, in_range) in
    let outside = patched_outside (descriptor_at zone) piece old fits in
    let capacity = capacity_fits g valid in
    let small : s.written < 2 ^ 32 = omega (arith, is.room, capacity, small_capacity g valid) in
    let same = descriptors_set g zone piece old eight fits in
    let front = front_same outside (omega arith) in
    record {
      header = header_same old (patched (descriptor_at zone) piece old) front outside.long ∙ was.header;
      shape = ap geometry_in front ∙ was.shape;
      possible =
          ap (list_all (is_descriptor g)) same ∙ list_all-set (is_descriptor g) (descriptors_in g old) zone piece was.possible (descriptor_possible g (slot_info s) small is);
      said =
          ap (map info_in) same ∙ map-set info_in (descriptors_in g old) zone piece ∙ ap (λ (l : List ZoneInfo). set l zone (info_in piece)) was.said
          ∙ ap (set (table_infos t) zone) (info_written (slot_info s) small) ∙ sym (map-set slot_info t.slots zone s);
    }

-- a file that holds an image describes the zones that are found in it
infos_found : (infos : List ZoneInfo) → infos ≡ map slot_info (map slot_of infos)
infos_found [] = refl
infos_found (info ∷ infos) = ap (λ (l : List ZoneInfo). info ∷ l) (infos_found infos)

pub described_found : (bytes : List ℕ) → is_image bytes ≡ true → Describes bytes (table_in bytes)
described_found bytes is =
    let g = geometry_of bytes in
    let found = second_true (has_header bytes) (are_possible g (descriptors_in g bytes)) is in
    record {
      header = first_true (has_header bytes) (are_possible g (descriptors_in g bytes)) is;
      shape = refl;
      possible = first_true (list_all (is_descriptor g) (descriptors_in g bytes)) (nat_le (active_zones (map info_in (descriptors_in g bytes))) g.active_limit) found;
      said = infos_found (map info_in (descriptors_in g bytes));
    }

-- a file that describes possible zones holds an image
pub image_described : (bytes : List ℕ) (t : TableState) → IsTable t → Describes bytes t → is_image bytes ≡ true
image_described bytes t is was =
    both (has_header bytes) (are_possible (geometry_of bytes) (descriptors_in (geometry_of bytes) bytes)) was.header
    (ap (λ g. are_possible g (descriptors_in g bytes)) was.shape
    ∙ both (list_all (is_descriptor t.geometry) (descriptors_in t.geometry bytes)) (nat_le (active_zones (map info_in (descriptors_in t.geometry bytes))) t.geometry.active_limit) was.possible
    (ap (λ (l : List ZoneInfo). nat_le (active_zones l) t.geometry.active_limit) was.said ∙ le-leb (active_zones (table_infos t)) t.geometry.active_limit is.possible.active))

abbrev with_slots : Geometry → List Slot → TableState
with_slots g slots = record { geometry = g; slots = slots }

abbrev with_infos : Geometry → List ZoneInfo → TableState
with_infos g infos = record { geometry = g; slots = map slot_of infos }

-- and another device finds their image, with all blocks durable
pub found_described : (bytes : List ℕ) (t : TableState) → Describes bytes t → found_image bytes ≡ synced (image_with t bytes)
found_described bytes t was =
    ap (λ g. image_with (table_of g (descriptors_in g bytes)) bytes) was.shape
    ∙ ap (λ (l : List ZoneInfo). image_with (with_infos t.geometry l) bytes) was.said
    ∙ ap (λ (l : List Slot). image_with (with_slots t.geometry l) bytes) (slots_as_found t.slots)
    ∙ image_synced t bytes

-- which blocks are durable isn't described
pub described_synced : (bytes : List ℕ) (t : TableState) → Describes bytes t → Describes bytes (table_synced t)
described_synced bytes t was = record { header = was.header; shape = was.shape; possible = was.possible; said = was.said ∙ sym (infos_with_synced t) }

-- the parts of a new image
module _ (g : Geometry) (valid : IsTrue (is_valid g)) (old : List ℕ) where
  abbrev zeros : List ℕ
  zeros = replicate (zones_at g - header_size) 0

  abbrev base : List ℕ
  base = resized (image_bytes g) old

  abbrev blanked : List ℕ
  blanked = patched header_size zeros base

  places : page + g.zones * 8 ≤ zones_at g
  unfolding zones_at
  places = omega arith

  length-base : length base ≡ image_bytes g
  length-base = omega (
    arith,
    length-append (take (image_bytes g) old) (replicate (image_bytes g - length old) 0),
    length-take (image_bytes g) old,
    length-replicate {A = ℕ} (image_bytes g - length old) 0,
  )

  zeros_fit : header_size + length zeros ≤ length base
  zeros_fit = omega (arith, length-base, length-replicate {A = ℕ} (zones_at g - header_size) 0, places)

  length-blanked : length blanked ≡ image_bytes g
  length-blanked = length_patched header_size zeros base zeros_fit ∙ length-base

  header_fits : 0 + length (header_bytes g) ≤ length blanked
  header_fits = omega (arith, length-blanked, length-header g, places)

  length-new : length (new_image g old) ≡ image_bytes g
  length-new = length_patched 0 (header_bytes g) blanked header_fits ∙ length-blanked

  front_new : take header_size (new_image g old) ≡ header_bytes g
  front_new = ap (take header_size) (from_piece 0 (header_bytes g) blanked header_fits) ∙ take_at (header_bytes g) (drop (0 + length (header_bytes g)) blanked) header_size (length-header g)

  zeros_new : take (g.zones * 8) (drop page (new_image g old)) ≡ replicate (g.zones * 8) 0
  zeros_new =
      let behind : 0 + length (header_bytes g) ≤ page = omega (arith, length-header g) in
      let enough : page - header_size ≤ length zeros = omega (arith, places, length-replicate {A = ℕ} (zones_at g - header_size) 0) in
      let left : g.zones * 8 ≤ zones_at g - header_size - (page - header_size) = omega (arith, places) in
      let left_long : g.zones * 8 ≤ length (replicate (zones_at g - header_size - (page - header_size)) 0) = omega (arith, left, length-replicate {A = ℕ} (zones_at g - header_size - (page - header_size)) 0) in
      ap (take (g.zones * 8))
      (behind_same (patched_outside 0 (header_bytes g) blanked header_fits) page behind
      ∙ sym (drop-drop (page - header_size) header_size blanked)
      ∙ ap (drop (page - header_size)) (from_piece header_size zeros base zeros_fit)
      ∙ drop-append-le (page - header_size) zeros (drop (header_size + length zeros) base) enough
      ∙ ap (λ (l : List ℕ). l ++ drop (header_size + length zeros) base) (drop-replicate (page - header_size) (zones_at g - header_size) 0))
      ∙ take-append-le (g.zones * 8) (replicate (zones_at g - header_size - (page - header_size)) 0) (drop (header_size + length zeros) base) left_long
      ∙ take-replicate (g.zones * 8) (zones_at g - header_size - (page - header_size)) 0 left

chunks-zeros : (n : ℕ) → chunks 8 n (replicate (n * 8) 0) ≡ replicate n (replicate 8 0)
chunks-zeros zero = refl
chunks-zeros (suc n) =
    let size : suc n * 8 ≡ 8 + n * 8 = omega arith in
    let left : 8 + n * 8 - 8 ≡ n * 8 = omega arith in
    ap (λ k. chunks 8 (suc n) (replicate k 0)) size
    ∙ ap (λ (l : List ℕ). l ∷ chunks 8 n (drop 8 (replicate (8 + n * 8) 0))) (take-replicate 8 (8 + n * 8) 0 (omega arith))
    ∙ ap (λ (l : List ℕ). replicate 8 0 ∷ chunks 8 n l) (drop-replicate 8 (8 + n * 8) 0 ∙ ap (λ k. replicate k 0) left)
    ∙ ap (λ (l : List (List ℕ)). replicate 8 0 ∷ l) (chunks-zeros n)

list_all-replicate : (p : List ℕ → Bool) (n : ℕ) (x : List ℕ) → p x ≡ true → list_all p (replicate n x) ≡ true
list_all-replicate p zero x one = refl
list_all-replicate p (suc n) x one = both (p x) (list_all p (replicate n x)) one (list_all-replicate p n x one)

map-replicate : (f : List ℕ → ZoneInfo) (n : ℕ) (x : List ℕ) → map f (replicate n x) ≡ replicate n (f x)
map-replicate f zero x = refl
map-replicate f (suc n) x = ap (λ (l : List ZoneInfo). f x ∷ l) (map-replicate f n x)

-- a new image has no blocks
pub described_new : (g : Geometry) (old : List ℕ) → IsTrue (is_valid g) → Describes (new_image g old) (table_blank g)
described_new g old valid =
    let new = new_image g old in
    let front = front_new g valid old in
    let shape : geometry_of new ≡ g = ap geometry_in front ∙ header_geometry g valid in
    let descriptors : descriptors_in g new ≡ replicate g.zones (replicate 8 0) = ap (chunks 8 g.zones) (zeros_new g valid old) ∙ chunks-zeros g.zones in
    record {
      header =
          both (nat_le page (length new) && is_header (take header_size new)) (nat_le (image_bytes (geometry_of new)) (length new))
          (both (nat_le page (length new)) (is_header (take header_size new)) (le-leb page (length new) (omega (arith, length-new g valid old, places g valid old))) (ap is_header front ∙ header_is g valid))
          (ap (λ k. nat_le (image_bytes k) (length new)) shape ∙ le-leb (image_bytes g) (length new) (omega (arith, length-new g valid old)));
      shape = shape;
      possible = ap (list_all (is_descriptor g)) descriptors ∙ list_all-replicate (is_descriptor g) g.zones (replicate 8 0) (zeros_possible g valid);
      said = ap (map info_in) descriptors ∙ map-replicate info_in g.zones (replicate 8 0) ∙ ap (replicate g.zones) info_of_zeros ∙ sym (infos_with_blank g);
    }

blank_zones : (g : Geometry) (bytes : List ℕ) (n k : ℕ) → zones_there g bytes n (replicate k no_slot) ≡ replicate k no_zone
blank_zones g bytes n zero = refl
blank_zones g bytes n (suc k) = ap (λ (zs : List Zone). no_zone ∷ zs) (blank_zones g bytes (suc n) k)

abbrev with_zones : Geometry → List Zone → Image
with_zones g zones = record { geometry = g; zones = zones }

-- without blocks the bytes don't matter
pub image_blank : (g : Geometry) (bytes : List ℕ) → image_with (table_blank g) bytes ≡ blank g
unfolding image_with
image_blank g bytes = ap (with_zones g) (blank_zones g bytes 0 g.zones)

synced_zones : (k : ℕ) → map zone_synced (replicate k no_zone) ≡ replicate k no_zone
synced_zones zero = refl
synced_zones (suc k) = ap (λ (zs : List Zone). no_zone ∷ zs) (synced_zones k)

-- a new image is found, and all its zones are empty
pub new_found : (g : Geometry) (old : List ℕ) → IsTrue (is_valid g) → is_image (new_image g old) ≡ true
new_found g old valid = image_described (new_image g old) (table_blank g) (table_with_blank g valid) (described_new g old valid)

pub new_blank : (g : Geometry) (old : List ℕ) → IsTrue (is_valid g) → found_image (new_image g old) ≡ blank g
new_blank g old valid =
    found_described (new_image g old) (table_blank g) (described_new g old valid) ∙ ap synced (image_blank g (new_image g old)) ∙ ap (with_zones g) (synced_zones g.zones)

-- what a device leaves in its file, whether it knows zones or not
pub found_standing : (table : Option TableState) (tells : Type 0) (broken : Bool) (bytes : List ℕ) → IsDescribedIn tells broken table bytes → tells → IsSome table → broken ≡ false
    → found_image bytes ≡ synced (standing_image table bytes)
found_standing None tells broken bytes is told none whole = cc
found_standing (Some t) tells broken bytes is told some whole = found_described bytes t (is told whole)

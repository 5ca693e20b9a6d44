-- A file whose header and descriptors say what is known of its zones, and what writes leave of that.
use Rattle.std.proofs.Common.{◌≡◌, ℕ, zero, suc, ◌+◌, ◌*◌, ◌<◌, ◌≤◌, ◌≢◌, ⊎_elim, Bool, true, ◌&&◌, List, [], ◌∷◌, length, map, get_or, set, take, drop, refl, sym, ◌∙◌, ap, subst, arith, length-drop, length-take-le}
use Rattle.std.specs.Prelude.{nat_le}
use Rattle.std.specs.List.{list_all}
use Rattle.std.proofs.lemmas.Bool.{cases_eq, cases_lt}
use Rattle.std.proofs.lemmas.List.{drop-drop, ext_get_or, get_or-set_other, get_or-set_same, get_or-map, length-set, map-set, take-take}
use Rattle.zone_image.specs.declared.Geometry.{Geometry}
use Rattle.zone_image.specs.Changes.{chunks}
use Rattle.zone_image.specs.Infos.{active_zones}
use Rattle.zone_image.proofs.BlockLaws.{chunks-take, length-chunks}
use Rattle.image_backend.specs.Contents.{patched, SameOutside}
use Rattle.image_backend.specs.Format.{page, header_size, geometry_in, geometry_of}
use Rattle.power_image.specs.declared.descriptor.Descriptor.{Descriptor}
use Rattle.power_image.specs.Layout.{zones_at, image_bytes, descriptor_at, is_header}
use Rattle.power_image.specs.Descriptors.{descriptors_in, is_descriptor, said_in, told, are_possible, has_header, is_image}
use Rattle.power_image.specs.Table.{no_descriptor, Describes, Says, Turns}
use Rattle.power_image.proofs.Alone.{drop_patched, take_patched}
use Rattle.power_image.proofs.Bytes.{before_same, behind_same, patched_outside}
use Rattle.power_image.proofs.Descriptors.{shifted, first_true, second_true}

pub both : (a b : Bool) → a ≡ true → b ≡ true → (a && b) ≡ true
both a b first second = ap (λ x. x && b) first ∙ second

-- the test of a header, by the first bytes of a file and its length
abbrev header_right : List ℕ → ℕ → Bool
header_right front count = nat_le page count && is_header front && nat_le (image_bytes (geometry_in front)) count

pub header_same : (old new : List ℕ) → take header_size new ≡ take header_size old → length new ≡ length old → has_header new ≡ has_header old
header_same old new front long = ap (λ (l : List ℕ). header_right l (length new)) front ∙ ap (header_right (take header_size old)) long

pub front_same : {at count : ℕ} {old new : List ℕ} → SameOutside at count old new → header_size ≤ at → take header_size new ≡ take header_size old
front_same {at} {count} {old} {new} same behind = sym (take-take header_size at new behind) ∙ ap (take header_size) same.before ∙ take-take header_size at old behind

-- a write behind the descriptors
pub described_behind : (g : Geometry) (ds : List Descriptor) {at count : ℕ} (old new : List ℕ) → SameOutside at count old new → zones_at g ≤ at → Describes old g ds → Describes new g ds
unfolding zones_at
described_behind g ds {at} {count} old new same behind was =
    let front = front_same same (omega arith) in
    let within : page + g.zones * 32 ≤ at = omega arith in
    let descriptors = ap (chunks 32 g.zones) (before_same same page (g.zones * 32) within) in
    record {
      header = header_same old new front same.long ∙ was.header;
      shape = ap geometry_in front ∙ was.shape;
      right = ap (list_all (is_descriptor g)) descriptors ∙ was.right;
      said = ap (map said_in) descriptors ∙ was.said;
    }

-- a piece of whole blocks, by number
get_or-chunks : (block n m : ℕ) (xs : List ℕ) → m < n → get_or (chunks block n xs) m [] ≡ take block (drop (m * block) xs)
get_or-chunks block zero m xs in_range = absurd (omega arith)
get_or-chunks block (suc n) zero xs in_range =
    let none : 0 * block ≡ 0 = omega arith in
    sym (ap (λ k. take block (drop k xs)) none)
get_or-chunks block (suc n) (suc m) xs in_range = get_or-chunks block n m (drop block xs) (omega arith) ∙ ap (take block) (shifted m block xs)

-- one descriptor, by number
pub descriptor_by_number : (g : Geometry) (bytes : List ℕ) (m : ℕ) → m < g.zones → get_or (descriptors_in g bytes) m [] ≡ take 32 (drop (descriptor_at m) bytes)
descriptor_by_number g bytes m in_range =
    let place : page + m * 32 ≡ descriptor_at m = omega arith in
    ap (λ (l : List (List ℕ)). get_or l m []) (chunks-take 32 g.zones (drop page bytes)) ∙ get_or-chunks 32 g.zones m (drop page bytes) in_range ∙ ap (take 32) (drop-drop (m * 32) page bytes)
    ∙ ap (λ k. take 32 (drop k bytes)) place

pub length-descriptors : (g : Geometry) (bytes : List ℕ) → length (descriptors_in g bytes) ≡ g.zones
length-descriptors g bytes = length-chunks 32 g.zones (take (g.zones * 32) (drop page bytes))

-- after a write into one descriptor
module _ (g : Geometry) (zone k : ℕ) (piece old : List ℕ) (within : k + length piece ≤ 32) (fits : descriptor_at zone + 32 ≤ length old) where
  abbrev new : List ℕ
  new = patched (descriptor_at zone + k) piece old

  piece_fits : descriptor_at zone + k + length piece ≤ length old
  piece_fits = omega (arith, within, fits)

  pub outside : SameOutside (descriptor_at zone + k) (length piece) old new
  outside = patched_outside (descriptor_at zone + k) piece old piece_fits

  here : take 32 (drop (descriptor_at zone) new) ≡ patched k piece (take 32 (drop (descriptor_at zone) old))
  here =
      let long : 32 ≤ length (drop (descriptor_at zone) old) = omega (arith, fits, length-drop (descriptor_at zone) old) in
      ap (take 32) (drop_patched (descriptor_at zone) k piece old piece_fits) ∙ take_patched 32 k piece (drop (descriptor_at zone) old) within long

  other : (m : ℕ) → m ≢ zone → take 32 (drop (descriptor_at m) new) ≡ take 32 (drop (descriptor_at m) old)
  other m differs = ⊎_elim
      (λ before. before_same outside (descriptor_at m) 32 (omega (arith, before)))
      (λ behind. ap (take 32) (behind_same outside (descriptor_at m) (omega (arith, behind, differs, within))))
      (cases_lt m zone)

  pub descriptors_set : descriptors_in g new ≡ set (descriptors_in g old) zone (patched k piece (take 32 (drop (descriptor_at zone) old)))
  descriptors_set =
      ext_get_or [] (descriptors_in g new) (set (descriptors_in g old) zone part) (omega (arith, length-descriptors g new, length-descriptors g old, length-set (descriptors_in g old) zone part))
      (λ m lt. each m (omega (arith, lt, length-descriptors g new)))
    where
      part : List ℕ
      part = patched k piece (take 32 (drop (descriptor_at zone) old))

      each : (m : ℕ) → m < g.zones → get_or (descriptors_in g new) m [] ≡ get_or (set (descriptors_in g old) zone part) m []
      each m in_range = descriptor_by_number g new m in_range ∙ ⊎_elim
          (λ same.
          let there : zone < length (descriptors_in g old) = omega (arith, same, in_range, length-descriptors g old) in
          ap (λ k. take 32 (drop (descriptor_at k) new)) same ∙ here ∙ sym (get_or-set_same (descriptors_in g old) zone part [] there) ∙ ap (λ k. get_or (set (descriptors_in g old) zone part) k []) (sym same))
          (λ differs. other m differs ∙ sym (descriptor_by_number g old m in_range) ∙ sym (get_or-set_other (descriptors_in g old) zone m part [] differs))
          (cases_eq m zone)

list_all-set : {A : Type 0} (p : A → Bool) (xs : List A) (n : ℕ) (x : A) → list_all p xs ≡ true → p x ≡ true → list_all p (set xs n x) ≡ true
list_all-set p [] n x all one = refl
list_all-set p (y ∷ ys) zero x all one = both (p x) (list_all p ys) one (second_true (p y) (list_all p ys) all)
list_all-set p (y ∷ ys) (suc n) x all one = both (p y) (list_all p (set ys n x)) (first_true (p y) (list_all p ys) all) (list_all-set p ys n x (second_true (p y) (list_all p ys) all) one)

list_all-get : {A : Type 0} (p : A → Bool) (xs : List A) (n : ℕ) (x : A) → list_all p xs ≡ true → n < length xs → p (get_or xs n x) ≡ true
list_all-get p [] n x all in_range = absurd (omega (arith, in_range))
list_all-get p (y ∷ ys) zero x all in_range = first_true (p y) (list_all p ys) all
list_all-get p (y ∷ ys) (suc n) x all in_range = list_all-get p ys n x (second_true (p y) (list_all p ys) all) (omega (arith, in_range))

-- a descriptor says what is known of it
pub descriptor_says : (g : Geometry) (ds : List Descriptor) (zone : ℕ) (bytes : List ℕ) → zone < g.zones → Describes bytes g ds → Says g (take 32 (drop (descriptor_at zone) bytes)) (get_or ds zone no_descriptor)
descriptor_says g ds zone bytes in_range was =
    let there : zone < length (descriptors_in g bytes) = omega (arith, in_range, length-descriptors g bytes) in
    subst (λ (l : List ℕ). Says g l (get_or ds zone no_descriptor)) (descriptor_by_number g bytes zone in_range) (record {
      right = list_all-get (is_descriptor g) (descriptors_in g bytes) zone [] was.right there;
      said = sym (get_or-map said_in (descriptors_in g bytes) zone [] no_descriptor there) ∙ ap (λ (l : List Descriptor). get_or l zone no_descriptor) was.said;
    })

-- a write that makes one descriptor say something else
pub described_put : (g : Geometry) (ds : List Descriptor) (zone k : ℕ) (piece old : List ℕ) (d : Descriptor) → zone < g.zones → image_bytes g ≤ length old → k + length piece ≤ 32
    → Turns g k piece (get_or ds zone no_descriptor) d → Describes old g ds → Describes (patched (descriptor_at zone + k) piece old) g (set ds zone d)
unfolding zones_at
described_put g ds zone k piece old d in_range long within turns was =
    let fits : descriptor_at zone + 32 ≤ length old = omega (arith, in_range, long) in
    let same = descriptors_set g zone k piece old within fits in
    let out = outside g zone k piece old within fits in
    let front = front_same out (omega arith) in
    let whole : length (take 32 (drop (descriptor_at zone) old)) ≡ 32 = length-take-le 32 (drop (descriptor_at zone) old) (omega (arith, fits, length-drop (descriptor_at zone) old)) in
    let says = turns (take 32 (drop (descriptor_at zone) old)) whole (descriptor_says g ds zone old in_range was) in
    let part = patched k piece (take 32 (drop (descriptor_at zone) old)) in
    record {
      header = header_same old (patched (descriptor_at zone + k) piece old) front out.long ∙ was.header;
      shape = ap geometry_in front ∙ was.shape;
      right = ap (list_all (is_descriptor g)) same ∙ list_all-set (is_descriptor g) (descriptors_in g old) zone part was.right says.right;
      said =
          ap (map said_in) same ∙ map-set said_in (descriptors_in g old) zone part ∙ ap (λ (l : List Descriptor). set l zone (said_in part)) was.said ∙ ap (set ds zone) says.said;
    }

-- a file that holds an image says what is found in it
pub described_found : (bytes : List ℕ) → is_image bytes ≡ true → Describes bytes (geometry_of bytes) (map said_in (descriptors_in (geometry_of bytes) bytes))
described_found bytes is =
    let g = geometry_of bytes in
    let found = second_true (has_header bytes) (are_possible g (descriptors_in g bytes)) is in
    record {
      header = first_true (has_header bytes) (are_possible g (descriptors_in g bytes)) is;
      shape = refl;
      right = first_true (list_all (is_descriptor g) (descriptors_in g bytes)) (nat_le (active_zones (map told (map said_in (descriptors_in g bytes)))) g.active_limit) found;
      said = refl;
    }

-- Descriptors one after the other.
use Rattle.std.proofs.Common.{◌≡◌, ℕ, zero, suc, ◌+◌, ◌*◌, ◌<◌, Bool, true, false, ◌&&◌, List, [], ◌∷◌, ◌++◌, map, take, drop, cond, ◌≤◌, IsTrue, refl, sym, ◌∙◌, ap, arith}
use Rattle.std.specs.List.{list_all, All}
use Rattle.std.proofs.lemmas.Bool.Decides.{nat_tests}
use Rattle.std.proofs.lemmas.List.{map-append, drop-drop, length-map}
use Rattle.std.proofs.lemmas.List.Elements.{All-nil, All-cons}
use Rattle.std.proofs.lemmas.List.Folds.{list_all-append}
use Rattle.zone_image.specs.declared.Geometry.{Geometry}
use Rattle.zone_image.specs.declared.ZoneInfo.{ZoneInfo}
use Rattle.zone_image.specs.Address.{is_valid}
use Rattle.zone_image.specs.Changes.{chunks}
use Rattle.zone_image.specs.Infos.{active_zones, IsPossibleInfo}
use Rattle.zone_image.proofs.BlockLaws.{length-chunks}
use Rattle.image_backend.specs.declared.table.Slot.{Slot as Numbers}
use Rattle.image_backend.specs.Table.{slot_info, slot_of}
use Rattle.power_image.specs.declared.descriptor.Descriptor.{Descriptor}
use Rattle.power_image.specs.Descriptors.{Half, half_in, descriptor_of, is_descriptor, is_possible, is_right, said_by, said_in, told, counts}
use Rattle.power_image.specs.Table.{known_of, IsKnownTable}

pub shifted : (n block : ℕ) (xs : List ℕ) → drop (n * block) (drop block xs) ≡ drop (suc n * block) xs
shifted n block xs =
    let sum : block + n * block ≡ suc n * block = omega arith in
    drop-drop (n * block) block xs ∙ ap (λ k. drop k xs) sum

-- one piece more
pub chunks_more : (block n : ℕ) (xs : List ℕ) → chunks block (n + 1) xs ≡ chunks block n xs ++ take block (drop (n * block) xs) ∷ []
chunks_more block zero xs =
    let none : 0 * block ≡ 0 = omega arith in
    sym (ap (λ k. take block (drop k xs) ∷ []) none)
chunks_more block (suc n) xs =
    let count : suc n + 1 ≡ suc (n + 1) = omega arith in
    ap (λ k. chunks block k xs) count
    ∙ ap (λ (l : List (List ℕ)). take block xs ∷ l) (chunks_more block n (drop block xs))
    ∙ ap (λ (l : List ℕ). take block xs ∷ chunks block n (drop block xs) ++ take block l ∷ []) (shifted n block xs)

false_behind : (b : Bool) → (b && false) ≡ false
false_behind true = refl
false_behind false = refl

-- a piece that fails a test
pub chunks_fail : (p : List ℕ → Bool) (block k n : ℕ) (xs : List ℕ) → k < n → p (take block (drop (k * block) xs)) ≡ false → list_all p (chunks block n xs) ≡ false
chunks_fail p block k zero xs lt fails = absurd (omega arith)
chunks_fail p block zero (suc n) xs lt fails =
    let none : 0 * block ≡ 0 = omega arith in
    ap (λ b. b && list_all p (chunks block n (drop block xs))) (ap (λ k. p (take block (drop k xs))) (sym none) ∙ fails)
chunks_fail p block (suc k) (suc n) xs lt fails =
    ap (λ b. p (take block xs) && b) (chunks_fail p block k n (drop block xs) (omega arith) (ap (λ (l : List ℕ). p (take block l)) (shifted k block xs) ∙ fails))
    ∙ false_behind (p (take block xs))

both_true : (a b : Bool) → a ≡ true → b ≡ true → (a && b) ≡ true
both_true a b first second = ap (λ x. x && b) first ∙ second

-- one descriptor more that is right
module _ (g : Geometry) (bytes : List ℕ) (zone : ℕ) where
  pub said_more : (ds : List Descriptor) → ds ≡ map said_in (chunks 32 zone bytes) → ds ++ said_in (take 32 (drop (zone * 32) bytes)) ∷ [] ≡ map said_in (chunks 32 (zone + 1) bytes)
  said_more ds found = sym (
      ap (map said_in) (chunks_more 32 zone bytes)
      ∙ map-append said_in (chunks 32 zone bytes) (take 32 (drop (zone * 32) bytes) ∷ [])
      ∙ ap (λ (l : List Descriptor). l ++ said_in (take 32 (drop (zone * 32) bytes)) ∷ []) (sym found))

  pub all_more : list_all (is_descriptor g) (chunks 32 zone bytes) ≡ true → is_descriptor g (take 32 (drop (zone * 32) bytes)) ≡ true → list_all (is_descriptor g) (chunks 32 (zone + 1) bytes) ≡ true
  all_more all here =
      ap (list_all (is_descriptor g)) (chunks_more 32 zone bytes)
      ∙ list_all-append (is_descriptor g) (chunks 32 zone bytes) (take 32 (drop (zone * 32) bytes) ∷ [])
      ∙ both_true (list_all (is_descriptor g) (chunks 32 zone bytes)) (is_descriptor g (take 32 (drop (zone * 32) bytes)) && true) all (both_true (is_descriptor g (take 32 (drop (zone * 32) bytes))) true here refl)

pub first_true : (a b : Bool) → (a && b) ≡ true → a ≡ true
first_true true b h = refl
first_true false b h = h

pub second_true : (a b : Bool) → (a && b) ≡ true → b ≡ true
second_true true b h = h
second_true false b h = cc

-- a descriptor that is right tells possible numbers
possible_info : (g : Geometry) (d : Descriptor) → is_possible g d.counting ≡ true → IsPossibleInfo g (told d)
possible_info g d is = record {
  room = grind (arith, nat_tests, is);
  full = λ full. grind (arith, nat_tests, is, full);
}

right_counting : (g : Geometry) (first second : Half) (one : Bool) → one ≡ counts second first → is_right g first second ≡ true → is_possible g (said_by first second).counting ≡ true
right_counting g first second true one is =
    ap (λ b. is_possible g (cond b (descriptor_of true second first) (descriptor_of false first second)).counting) (sym one)
    ∙ sym (ap (λ b. cond b (is_possible g second.slot) (counts first second && is_possible g first.slot)) (sym one)) ∙ is
right_counting g first second false one is =
    ap (λ b. is_possible g (cond b (descriptor_of true second first) (descriptor_of false first second)).counting) (sym one)
    ∙ second_true (counts first second) (is_possible g first.slot) (sym (ap (λ b. cond b (is_possible g second.slot) (counts first second && is_possible g first.slot)) (sym one)) ∙ is)

pub told_possible : (g : Geometry) (bytes : List ℕ) → is_descriptor g bytes ≡ true → IsPossibleInfo g (told (said_in bytes))
unfolding is_descriptor said_in
told_possible g bytes is =
    let first = half_in (take 16 bytes) in
    let second = half_in (drop 16 bytes) in
    possible_info g (said_by first second) (right_counting g first second (counts second first) refl is)

infos_possible : (g : Geometry) (ds : List (List ℕ)) → list_all (is_descriptor g) ds ≡ true → All (IsPossibleInfo g) (map slot_info (map slot_of (map told (map said_in ds))))
infos_possible g [] all = All-nil (IsPossibleInfo g)
infos_possible g (d ∷ ds) all =
    All-cons (IsPossibleInfo g) (told (said_in d)) (map slot_info (map slot_of (map told (map said_in ds)))) (told_possible g d (first_true (is_descriptor g d) (list_all (is_descriptor g) ds) all))
    (infos_possible g ds (second_true (is_descriptor g d) (list_all (is_descriptor g) ds) all))

all_kept : (ds : List Descriptor) → All (λ s. s.kept ≤ s.written) (map slot_of (map told ds))
all_kept [] = All-nil (λ (s : Numbers). s.kept ≤ s.written)
all_kept (d ∷ ds) = All-cons (λ (s : Numbers). s.kept ≤ s.written) (slot_of (told d)) (map slot_of (map told ds)) (omega arith) (all_kept ds)

infos_as_told : (ds : List Descriptor) → map slot_info (map slot_of (map told ds)) ≡ map told ds
infos_as_told [] = refl
infos_as_told (d ∷ ds) = ap (λ (l : List ZoneInfo). told d ∷ l) (infos_as_told ds)

-- descriptors that are right give zones that a device may have
pub known_possible : (g : Geometry) (bytes : List ℕ) → IsTrue (is_valid g) → list_all (is_descriptor g) (chunks 32 g.zones bytes) ≡ true
    → active_zones (map slot_info (map slot_of (map told (map said_in (chunks 32 g.zones bytes))))) ≤ g.active_limit → IsKnownTable (known_of g (chunks 32 g.zones bytes))
known_possible g bytes valid all active = record {
  table = record {
    possible = record {
      valid = valid;
      count =
          length-map (map slot_of (map told (map said_in (chunks 32 g.zones bytes)))) slot_info ∙ length-map (map told (map said_in (chunks 32 g.zones bytes))) slot_of ∙ length-map (map said_in (chunks 32 g.zones bytes)) told ∙ length-map (chunks 32 g.zones bytes) said_in
          ∙ length-chunks 32 g.zones bytes;
      each = infos_possible g (chunks 32 g.zones bytes) all;
      active = active;
    };
    kept = all_kept (map said_in (chunks 32 g.zones bytes));
  };
  count = length-map (chunks 32 g.zones bytes) said_in ∙ length-chunks 32 g.zones bytes;
}

-- what is counted of them
pub infos_told : (ds : List Descriptor) → active_zones (map slot_info (map slot_of (map told ds))) ≡ active_zones (map told ds)
infos_told ds = ap active_zones (infos_as_told ds)

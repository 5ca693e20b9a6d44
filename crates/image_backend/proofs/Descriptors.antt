-- Descriptors one after the other.
use Rattle.std.proofs.Common.{◌≡◌, ℕ, zero, suc, ◌+◌, ◌*◌, ◌<◌, Bool, true, false, ◌&&◌, List, [], ◌∷◌, ◌++◌, map, take, drop, ◌≤◌, IsTrue, refl, sym, ◌∙◌, ap, arith}
use Rattle.std.specs.List.{list_all, All}
use Rattle.std.proofs.lemmas.Bool.Decides.{nat_tests}
use Rattle.std.proofs.lemmas.List.{map-append, drop-drop, length-map}
use Rattle.std.proofs.lemmas.List.Elements.{All-nil, All-cons}
use Rattle.std.proofs.lemmas.List.Folds.{list_all-append}
use Rattle.zone_image.specs.declared.Geometry.{Geometry}
use Rattle.zone_image.specs.Address.{is_valid}
use Rattle.zone_image.specs.Changes.{chunks}
use Rattle.zone_image.specs.Infos.{active_zones, IsPossibleInfo}
use Rattle.zone_image.proofs.BlockLaws.{length-chunks}
use Rattle.image_backend.specs.declared.table.Slot.{Slot}
use Rattle.image_backend.specs.Format.{info_in, is_descriptor}
use Rattle.image_backend.specs.Table.{slot_info, slot_of, slots_of, table_of, IsTable}

pub shifted : (n block : ℕ) (xs : List ℕ) → drop (n * block) (drop block xs) ≡ drop (suc n * block) xs
shifted n block xs =
    let sum : block + n * block ≡ suc n * block = omega arith in
    drop-drop (n * block) block xs ∙ ap (λ k. drop k xs) sum

-- one piece more
pub chunks_more : (block n : ℕ) (xs : List ℕ) → chunks block (n + 1) xs ≡ chunks block n xs ++ take block (drop (n * block) xs) ∷ []
chunks_more block zero xs =
    let none : 0 * block ≡ 0 = omega arith in
    sym (ap (λ k. take block (drop k xs) ∷ []) none)
chunks_more block (suc n) xs =
    let count : suc n + 1 ≡ suc (n + 1) = omega arith in
    ap (λ k. chunks block k xs) count
    ∙ ap (λ (l : List (List ℕ)). take block xs ∷ l) (chunks_more block n (drop block xs))
    ∙ ap (λ (l : List ℕ). take block xs ∷ chunks block n (drop block xs) ++ take block l ∷ []) (shifted n block xs)

false_behind : (b : Bool) → (b && false) ≡ false
false_behind true = refl
false_behind false = refl

-- a piece that fails a test
pub chunks_fail : (p : List ℕ → Bool) (block k n : ℕ) (xs : List ℕ) → k < n → p (take block (drop (k * block) xs)) ≡ false → list_all p (chunks block n xs) ≡ false
chunks_fail p block k zero xs lt fails = absurd (omega arith)
chunks_fail p block zero (suc n) xs lt fails =
    let none : 0 * block ≡ 0 = omega arith in
    ap (λ b. b && list_all p (chunks block n (drop block xs))) (ap (λ k. p (take block (drop k xs))) (sym none) ∙ fails)
chunks_fail p block (suc k) (suc n) xs lt fails =
    ap (λ b. p (take block xs) && b) (chunks_fail p block k n (drop block xs) (omega arith) (ap (λ (l : List ℕ). p (take block l)) (shifted k block xs) ∙ fails))
    ∙ false_behind (p (take block xs))

both_true : (a b : Bool) → a ≡ true → b ≡ true → (a && b) ≡ true
both_true a b first second = ap (λ x. x && b) first ∙ second

-- one descriptor more that is possible
module _ (g : Geometry) (bytes : List ℕ) (zone : ℕ) where
  piece : List ℕ
  piece = take 8 (drop (zone * 8) bytes)

  pub slots_more : (slots : List Slot) → slots ≡ map slot_of (map info_in (chunks 8 zone bytes)) → slots ++ slot_of (info_in (take 8 (drop (zone * 8) bytes))) ∷ [] ≡ map slot_of (map info_in (chunks 8 (zone + 1) bytes))
  slots_more slots found = sym (
      ap (λ (l : List (List ℕ)). map slot_of (map info_in l)) (chunks_more 8 zone bytes)
      ∙ ap (map slot_of) (map-append info_in (chunks 8 zone bytes) (take 8 (drop (zone * 8) bytes) ∷ []))
      ∙ map-append slot_of (map info_in (chunks 8 zone bytes)) (info_in (take 8 (drop (zone * 8) bytes)) ∷ [])
      ∙ ap (λ (l : List Slot). l ++ slot_of (info_in (take 8 (drop (zone * 8) bytes))) ∷ []) (sym found))

  pub all_more : list_all (is_descriptor g) (chunks 8 zone bytes) ≡ true → is_descriptor g (take 8 (drop (zone * 8) bytes)) ≡ true → list_all (is_descriptor g) (chunks 8 (zone + 1) bytes) ≡ true
  all_more all here =
      ap (list_all (is_descriptor g)) (chunks_more 8 zone bytes)
      ∙ list_all-append (is_descriptor g) (chunks 8 zone bytes) (take 8 (drop (zone * 8) bytes) ∷ [])
      ∙ both_true (list_all (is_descriptor g) (chunks 8 zone bytes)) (is_descriptor g (take 8 (drop (zone * 8) bytes)) && true) all (both_true (is_descriptor g (take 8 (drop (zone * 8) bytes))) true here refl)

info_possible : (g : Geometry) (bytes : List ℕ) → is_descriptor g bytes ≡ true → IsPossibleInfo g (info_in bytes)
unfolding is_descriptor info_in
info_possible g bytes is = record {
  room = grind (arith, nat_tests, is);
  full = λ full. grind (arith, nat_tests, is, full);
}

infos_possible : (g : Geometry) (descriptors : List (List ℕ)) → list_all (is_descriptor g) descriptors ≡ true → All (IsPossibleInfo g) (map slot_info (slots_of descriptors))
infos_possible g [] all = All-nil (IsPossibleInfo g)
infos_possible g (d ∷ ds) all =
    All-cons (IsPossibleInfo g) (info_in d) (map slot_info (slots_of ds)) (info_possible g d (first_true (is_descriptor g d) (list_all (is_descriptor g) ds) all))
    (infos_possible g ds (second_true (is_descriptor g d) (list_all (is_descriptor g) ds) all))
  where
    first_true : (a b : Bool) → (a && b) ≡ true → a ≡ true
    first_true true b h = refl
    first_true false b h = h

    second_true : (a b : Bool) → (a && b) ≡ true → b ≡ true
    second_true true b h = h
    second_true false b h = cc

slots_kept : (descriptors : List (List ℕ)) → All (λ s. s.kept ≤ s.written) (slots_of descriptors)
slots_kept [] = All-nil (λ (s : Slot). s.kept ≤ s.written)
slots_kept (d ∷ ds) = All-cons (λ (s : Slot). s.kept ≤ s.written) (slot_of (info_in d)) (slots_of ds) (omega arith) (slots_kept ds)

-- possible descriptors give a table that a device may have
pub table_possible : (g : Geometry) (bytes : List ℕ) → IsTrue (is_valid g) → list_all (is_descriptor g) (chunks 8 g.zones bytes) ≡ true
    → active_zones (map slot_info (slots_of (chunks 8 g.zones bytes))) ≤ g.active_limit → IsTable (table_of g (chunks 8 g.zones bytes))
table_possible g bytes valid all active = record {
  possible = record {
    valid = valid;
    count =
        length-map (slots_of (chunks 8 g.zones bytes)) slot_info ∙ length-map (map info_in (chunks 8 g.zones bytes)) slot_of ∙ length-map (chunks 8 g.zones bytes) info_in
        ∙ length-chunks 8 g.zones bytes;
    each = infos_possible g (chunks 8 g.zones bytes) all;
    active = active;
  };
  kept = slots_kept (chunks 8 g.zones bytes);
}

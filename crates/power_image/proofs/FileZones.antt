-- The zones in a file before and after a write.
use Rattle.std.proofs.Common.{◌≡◌, ℕ, zero, suc, ◌+◌, ◌*◌, ◌<◌, ◌≤◌, ◌≢◌, List, [], ◌∷◌, ◌++◌, length, map, get_or, set, take, drop, refl, sym, ◌∙◌, ap, arith}
use Rattle.std.proofs.lemmas.List.{take_at}
use Rattle.std.proofs.lemmas.List.Elements.{All-head, All-tail}
use Rattle.zone_image.specs.declared.Geometry.{Geometry}
use Rattle.zone_image.specs.Image.{Zone, zone_in}
use Rattle.zone_image.specs.Changes.{chunks, change_at, zone_synced}
use Rattle.zone_image.proofs.BlockLaws.{chunks-take, length-chunks}
use Rattle.image_backend.specs.declared.table.Slot.{Slot}
use Rattle.image_backend.specs.Contents.{SameOutside}
use Rattle.image_backend.specs.Table.{no_slot, slot_info, slot_of, slot_synced}
use Rattle.image_backend.specs.FileImage.{zone_start, zone_there, zones_there}
use Rattle.image_backend.specs.ImageLaws.{AllFit}
use Rattle.power_image.proofs.Bytes.{before_same, behind_same}
use Rattle.power_image.proofs.Descriptors.{shifted}

-- a zone with these blocks
abbrev pub zone_with : Slot → List (List ℕ) → Zone
zone_with s blocks = record { blocks = blocks; kept = s.kept; sealed = s.sealed }

pub length-zones : (g : Geometry) (bytes : List ℕ) (n : ℕ) (slots : List Slot) → length (zones_there g bytes n slots) ≡ length slots
length-zones g bytes n [] = refl
length-zones g bytes n (s ∷ slots) = ap suc (length-zones g bytes (suc n) slots)

-- one zone, by number
pub zone_by_number : (g : Geometry) (bytes : List ℕ) (n k m : ℕ) (slots : List Slot) → m ≡ n + k → k < length slots → zone_in (zones_there g bytes n slots) k ≡ zone_there g bytes m (get_or slots k no_slot)
zone_by_number g bytes n k m [] at in_range = absurd (omega arith)
zone_by_number g bytes n zero m (s ∷ slots) at in_range =
    let same : n ≡ m = omega arith in
    ap (λ z. zone_there g bytes z s) same
zone_by_number g bytes n (suc k) m (s ∷ slots) at in_range = zone_by_number g bytes (suc n) k m slots (omega arith) (omega arith)

-- a zone with so many durable blocks
abbrev kept_with : Slot → List (List ℕ) → ℕ → Zone
kept_with s blocks k = record { blocks = blocks; kept = k; sealed = s.sealed }

-- with all blocks durable
pub zones_synced : (g : Geometry) (bytes : List ℕ) (n : ℕ) (slots : List Slot) → zones_there g bytes n (map slot_synced slots) ≡ map zone_synced (zones_there g bytes n slots)
zones_synced g bytes n [] = refl
zones_synced g bytes n (s ∷ slots) =
    ap (λ k. kept_with s (chunks g.block s.written (drop (zone_start g n) bytes)) k ∷ zones_there g bytes (suc n) (map slot_synced slots)) (sym (length-chunks g.block s.written (drop (zone_start g n) bytes)))
    ∙ ap (λ (zs : List Zone). zone_synced (zone_there g bytes n s) ∷ zs) (zones_synced g bytes (suc n) slots)

-- a device that reads the descriptors takes all blocks for durable
pub slots_as_found : (slots : List Slot) → map slot_of (map slot_info slots) ≡ map slot_synced slots
slots_as_found [] = refl
slots_as_found (s ∷ slots) = ap (λ (l : List Slot). slot_synced s ∷ l) (slots_as_found slots)

module _ (g : Geometry) (old new : List ℕ) where
  -- all zones are as they were
  pub zones_same : (n : ℕ) (slots : List Slot) → ((m : ℕ) (s : Slot) → n ≤ m → s.written ≤ g.capacity → zone_there g new m s ≡ zone_there g old m s)
      → AllFit g slots → zones_there g new n slots ≡ zones_there g old n slots
  zones_same n [] same fit = refl
  zones_same n (s ∷ slots) same fit =
      ap (λ (z : Zone). z ∷ zones_there g new (suc n) slots) (same n s (omega arith) (All-head (λ (s : Slot). s.written ≤ g.capacity) s slots fit))
      ∙ ap (λ (zs : List Zone). zone_there g old n s ∷ zs) (zones_same (suc n) slots (λ m s le fits. same m s (omega arith) fits) (All-tail (λ (s : Slot). s.written ≤ g.capacity) s slots fit))

  -- one zone is changed, and all others are as they were
  pub zones_changed : (n k z : ℕ) (slots : List Slot) (s' : Slot) (c : Zone → Zone) → z ≡ n + k
      → ((m : ℕ) (s : Slot) → m ≢ z → s.written ≤ g.capacity → zone_there g new m s ≡ zone_there g old m s)
      → zone_there g new z s' ≡ c (zone_there g old z (get_or slots k no_slot))
      → AllFit g slots → zones_there g new n (set slots k s') ≡ change_at k c (zones_there g old n slots)
  zones_changed n k z [] s' c at same here fit = refl
  zones_changed n zero z (s ∷ slots) s' c at same here fit =
      let there : z ≡ n = omega arith in
      ap (λ m. zone_there g new m s' ∷ zones_there g new (suc n) slots) (sym there)
      ∙ ap (λ (y : Zone). y ∷ zones_there g new (suc n) slots) here
      ∙ ap (λ m. c (zone_there g old m s) ∷ zones_there g new (suc n) slots) there
      ∙ ap (λ (zs : List Zone). c (zone_there g old n s) ∷ zs) (zones_same (suc n) slots (λ m s le fits. same m s (omega arith) fits) (All-tail (λ (s : Slot). s.written ≤ g.capacity) s slots fit))
  zones_changed n (suc k) z (s ∷ slots) s' c at same here fit =
      ap (λ (y : Zone). y ∷ zones_there g new (suc n) (set slots k s')) (same n s (omega arith) (All-head (λ (s : Slot). s.written ≤ g.capacity) s slots fit))
      ∙ ap (λ (zs : List Zone). zone_there g old n s ∷ zs) (zones_changed (suc n) k z slots s' c (omega arith) same here (All-tail (λ (s : Slot). s.written ≤ g.capacity) s slots fit))

  -- a zone whose blocks end before a write
  pub zone_before : {at count : ℕ} → SameOutside at count old new → (m : ℕ) (s : Slot) → zone_start g m + s.written * g.block ≤ at → zone_there g new m s ≡ zone_there g old m s
  zone_before same m s ends =
      ap (zone_with s)
      (sym (chunks-take g.block s.written (drop (zone_start g m) new))
      ∙ ap (chunks g.block s.written) (before_same same (zone_start g m) (s.written * g.block) ends)
      ∙ chunks-take g.block s.written (drop (zone_start g m) old))

  -- a zone that begins behind a write
  pub zone_behind : {at count : ℕ} → SameOutside at count old new → (m : ℕ) (s : Slot) → at + count ≤ zone_start g m → zone_there g new m s ≡ zone_there g old m s
  zone_behind same m s begins = ap (λ (l : List ℕ). zone_with s (chunks g.block s.written l)) (behind_same same (zone_start g m) begins)

-- blocks behind others
pub chunks-split : (block n m : ℕ) (xs : List ℕ) → chunks block (n + m) xs ≡ chunks block n xs ++ chunks block m (drop (n * block) xs)
chunks-split block zero m xs =
    let count : zero + m ≡ m = omega arith in
    let none : zero * block ≡ 0 = omega arith in
    ap (λ k. chunks block k xs) count ∙ ap (λ k. chunks block m (drop k xs)) (sym none)
chunks-split block (suc n) m xs =
    let count : suc n + m ≡ suc (n + m) = omega arith in
    ap (λ k. chunks block k xs) count
    ∙ ap (λ (l : List (List ℕ)). take block xs ∷ l) (chunks-split block n m (drop block xs))
    ∙ ap (λ (l : List ℕ). (take block xs ∷ chunks block n (drop block xs)) ++ chunks block m l) (shifted n block xs)

-- whole blocks need no bytes behind them
pub chunks-front : (block n : ℕ) (xs ys : List ℕ) → length xs ≡ n * block → chunks block n (xs ++ ys) ≡ chunks block n xs
chunks-front block n xs ys long = sym (chunks-take block n (xs ++ ys)) ∙ ap (chunks block n) (take_at xs ys (n * block) long)

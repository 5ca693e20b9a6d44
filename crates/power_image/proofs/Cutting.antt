-- Whatever a loss of power leaves within a change of descriptors, there is an image, and it tells each zone as before or after.
use Rattle.std.proofs.Common.{◌≡◌, ℕ, suc, ◌<◌, ◌≤◌, ◌⊎◌, inl, inr, Bool, true, false, not, ◌&&◌, ◌||◌, ◌==◌, List, [], ◌∷◌, length, get_or, take, drop, map, refl, sym, ◌∙◌, ap, subst, arith, eq-eqb}
use Rattle.std.specs.Prelude.{nat_le}
use Rattle.std.specs.List.{list_all}
use Rattle.std.proofs.lemmas.Bool.{le-leb, ne_eqb}
use Rattle.std.proofs.lemmas.List.{take-take, drop-take, drop-drop, get_or-map, length-map}
use Rattle.zone_image.specs.declared.Geometry.{Geometry}
use Rattle.zone_image.specs.declared.ZoneInfo.{ZoneInfo}
use Rattle.zone_image.specs.Infos.{no_info, info_at, active_zones}
use Rattle.image_backend.specs.Contents.{SameOutside}
use Rattle.image_backend.specs.Format.{geometry_in, geometry_of}
use Rattle.power_image.specs.declared.descriptor.Slot.{Slot}
use Rattle.power_image.specs.declared.descriptor.Descriptor.{Descriptor}
use Rattle.power_image.specs.Descriptors.{Half, half_in, slot_in, counts, next_turn, is_possible, info_of, told, descriptor_of, is_descriptor, said_in, descriptors_in, are_possible, has_header, is_image}
use Rattle.power_image.specs.Table.{no_descriptor, Says, Describes}
use Rattle.power_image.specs.Cuts.{Tells, CutGate, CutRest, Cut, Whole, Closing, Writing, Opening, descriptor_bytes, LeftOf, OldOrNew, TellsOldOrNew, FitsHowever, infos_found}
use Rattle.power_image.proofs.Bytes.{behind_same}
use Rattle.power_image.proofs.Described.{both, header_same, descriptor_by_number, length-descriptors, descriptor_says}
use Rattle.power_image.proofs.Turning.{Which, the_second, the_first, with_gate, second_is, first_is, open_one, alone_counts, turns_apart, passed_over, now_counts, are_says, says_which}

-- what a slot says stands behind its gate
slot_by_rest : (x y : List ℕ) → drop 1 x ≡ drop 1 y → slot_in x ≡ slot_in y
slot_by_rest x y same = behind x ∙ ap behind_gate same ∙ sym (behind y)
  where
    behind_gate : List ℕ → Slot
    behind_gate r = slot_in (0 ∷ r)

    behind : (z : List ℕ) → slot_in z ≡ slot_in (0 ∷ drop 1 z)
    behind [] = refl
    behind (g ∷ r) = refl

-- whether it is open stands at the gate
open_by_gate : (x y : List ℕ) → take 1 x ≡ take 1 y → (half_in x).is_open ≡ (half_in y).is_open
open_by_gate x y same = at x ∙ ap (λ (l : List ℕ). (half_in l).is_open) same ∙ sym (at y)
  where
    at : (z : List ℕ) → (half_in z).is_open ≡ (half_in (take 1 z)).is_open
    at [] = refl
    at (g ∷ r) = refl

half_with : (x : List ℕ) (s : Slot) → slot_in x ≡ s → half_in x ≡ with_gate (half_in x).is_open s
half_with x s same = ap (with_gate (half_in x).is_open) same

half_shut : (x : List ℕ) → (half_in x).is_open ≡ false → half_in x ≡ with_gate false (slot_in x)
half_shut x shut = ap (λ b. with_gate b (slot_in x)) shut

says_tells : (g : Geometry) (bytes : List ℕ) (d : Descriptor) (info : ZoneInfo) → Says g bytes d → told d ≡ info → Tells g bytes info
says_tells g bytes d info says same = record { right = says.right; tells = ap told says.said ∙ same }

module _ (g : Geometry) (bytes left : List ℕ) where
  abbrev first : Half
  first = half_in (take 16 bytes)

  abbrev second : Half
  second = half_in (drop 16 bytes)

  -- the first slot's gate may be anything
  gate_first : SameOutside 0 1 bytes left → (half_in (take 16 left) ≡ with_gate (half_in (take 16 left)).is_open first.slot) × (half_in (drop 16 left) ≡ second)
  gate_first same = (
    half_with (take 16 left) first.slot (slot_by_rest (take 16 left) (take 16 bytes) (drop-take 1 15 left ∙ ap (take 15) same.behind ∙ sym (drop-take 1 15 bytes))),
    ap half_in (behind_same same 16 (omega arith)),
  )

  gate_second : SameOutside 16 1 bytes left → (half_in (take 16 left) ≡ first) × (half_in (drop 16 left) ≡ with_gate (half_in (drop 16 left)).is_open second.slot)
  gate_second same = (
    ap half_in same.before,
    half_with (drop 16 left) second.slot (slot_by_rest (drop 16 left) (drop 16 bytes) (drop-drop 1 16 left ∙ same.behind ∙ sym (drop-drop 1 16 bytes))),
  )

  -- what stands behind the first gate may be anything
  rest_first : SameOutside 1 15 bytes left → first.is_open ≡ false → (half_in (take 16 left) ≡ with_gate false (slot_in (take 16 left))) × (half_in (drop 16 left) ≡ second)
  rest_first same shut =
      let least : 1 ≤ 16 = omega arith in (
        half_shut (take 16 left) (open_by_gate (take 16 left) (take 16 bytes) (take-take 1 16 left least ∙ same.before ∙ sym (take-take 1 16 bytes least)) ∙ shut),
        ap half_in same.behind,
      )

  rest_second : SameOutside 17 15 bytes left → second.is_open ≡ false → (half_in (take 16 left) ≡ first) × (half_in (drop 16 left) ≡ with_gate false (slot_in (drop 16 left)))
  rest_second same shut =
      let least : 16 ≤ 17 = omega arith in (
        ap half_in (sym (take-take 16 17 left least) ∙ ap (take 16) same.before ∙ take-take 16 17 bytes least),
        half_shut (drop 16 left) (open_by_gate (drop 16 left) (drop 16 bytes) (sym (drop-take 16 1 left) ∙ ap (drop 16) same.before ∙ drop-take 16 1 bytes) ∙ shut),
      )

  -- the slot that counts beside one that counted before, whatever its gate
  stays : (this : Half) (other : Slot) (gate : Bool) → this.is_open ≡ true → this.slot.turn ≡ next_turn other.turn → counts this (with_gate gate other) ≡ true
  stays this other true is turn = ap (λ b. b && (this.slot.turn == next_turn other.turn)) is ∙ eq-eqb this.slot.turn (next_turn other.turn) turn
  stays this other false is turn = ap (λ b. b && true) is

  -- and the other doesn't count beside it
  not_again : (this : Half) (other : Slot) (gate : Bool) → this.is_open ≡ true → this.slot.turn ≡ next_turn other.turn → counts (with_gate gate other) this ≡ false
  not_again this other false is turn = refl
  not_again this other true is turn =
      ap (λ b. not b || (other.turn == next_turn this.slot.turn)) is
      ∙ ne_eqb other.turn (next_turn this.slot.turn) (λ same. turns_apart other.turn (same ∙ ap next_turn turn))

  -- a cut while the gate of the slot that counted before is closed
  closing_cut : (d : Descriptor) → d.counting.turn ≡ next_turn d.other.turn → CutGate d bytes left → Which g first second d → Tells g left (told d)
  closing_cut d turn cut (the_second one possible is) =
      let e = descriptor_of true second first in
      let halves = gate_first (subst (λ x. CutGate x bytes left) is cut) in
      let gate = (half_in (take 16 left)).is_open in
      let next : second.slot.turn ≡ next_turn first.slot.turn = subst (λ (x : Descriptor). x.counting.turn ≡ next_turn x.other.turn) is turn in
      says_tells g left (descriptor_of true second (with_gate gate first.slot)) (told d)
      (are_says g left (with_gate gate first.slot) second (descriptor_of true second (with_gate gate first.slot)) halves.0 halves.1
      (second_is g (with_gate gate first.slot) second (stays second first.slot gate (open_one second first one) next) possible))
      (ap told (sym is))
  closing_cut d turn cut (the_first none one possible is) =
      let halves = gate_second (subst (λ x. CutGate x bytes left) is cut) in
      let gate = (half_in (drop 16 left)).is_open in
      let next : first.slot.turn ≡ next_turn second.slot.turn = subst (λ (x : Descriptor). x.counting.turn ≡ next_turn x.other.turn) is turn in
      let is_open = open_one first second one in
      says_tells g left (descriptor_of false first (with_gate gate second.slot)) (told d)
      (are_says g left first (with_gate gate second.slot) (descriptor_of false first (with_gate gate second.slot)) halves.0 halves.1
      (first_is g first (with_gate gate second.slot) (not_again first second.slot gate is_open next) (stays first second.slot gate is_open next) possible))
      (ap told (sym is))

  -- a cut while bytes are written behind a gate that is closed
  writing_cut : (d : Descriptor) → d.other_open ≡ false → CutRest d bytes left → Which g first second d → Tells g left (told d)
  writing_cut d shut cut (the_second one possible is) =
      let closed_gate : first.is_open ≡ false = sym (ap (λ (x : Descriptor). x.other_open) is) ∙ shut in
      let halves = rest_first (subst (λ x. CutRest x bytes left) is cut) closed_gate in
      let s = slot_in (take 16 left) in
      says_tells g left (descriptor_of true second (with_gate false s)) (told d)
      (are_says g left (with_gate false s) second (descriptor_of true second (with_gate false s)) halves.0 halves.1
      (second_is g (with_gate false s) second (alone_counts second s (open_one second first one)) possible))
      (ap told (sym is))
  writing_cut d shut cut (the_first none one possible is) =
      let closed_gate : second.is_open ≡ false = sym (ap (λ (x : Descriptor). x.other_open) is) ∙ shut in
      let halves = rest_second (subst (λ x. CutRest x bytes left) is cut) closed_gate in
      let s = slot_in (drop 16 left) in
      says_tells g left (descriptor_of false first (with_gate false s)) (told d)
      (are_says g left first (with_gate false s) (descriptor_of false first (with_gate false s)) halves.0 halves.1
      (first_is g first (with_gate false s) refl (alone_counts first s (open_one first second one)) possible))
      (ap told (sym is))

  -- a cut while the gate of the slot that is to count next is opened
  opened_left : (d : Descriptor) (gate : Bool) → d.other.turn ≡ next_turn d.counting.turn → is_possible g d.other ≡ true → Which g first second d
      → (d.second ≡ true → half_in (take 16 left) ≡ with_gate gate first.slot) → (d.second ≡ true → half_in (drop 16 left) ≡ second)
      → (d.second ≡ false → half_in (take 16 left) ≡ first) → (d.second ≡ false → half_in (drop 16 left) ≡ with_gate gate second.slot)
      → Tells g left (told d) ⊎ Tells g left (info_of d.other)
  opened_left d false turn fits (the_second one possible is) a b a' b' =
      let side = ap (λ (x : Descriptor). x.second) is in
      inl (says_tells g left (descriptor_of true second (with_gate false first.slot)) (told d)
      (are_says g left (with_gate false first.slot) second (descriptor_of true second (with_gate false first.slot)) (a side) (b side)
      (second_is g (with_gate false first.slot) second (alone_counts second first.slot (open_one second first one)) possible))
      (ap told (sym is)))
  opened_left d true turn fits (the_second one possible is) a b a' b' =
      let side = ap (λ (x : Descriptor). x.second) is in
      let next : first.slot.turn ≡ next_turn second.slot.turn = subst (λ (x : Descriptor). x.other.turn ≡ next_turn x.counting.turn) is turn in
      let right : is_possible g first.slot ≡ true = subst (λ (x : Descriptor). is_possible g x.other ≡ true) is fits in
      inr (says_tells g left (descriptor_of false (with_gate true first.slot) second) (info_of d.other)
      (are_says g left (with_gate true first.slot) second (descriptor_of false (with_gate true first.slot) second) (a side) (b side)
      (first_is g (with_gate true first.slot) second (passed_over second first.slot next) (now_counts second first.slot (open_one second first one) next) right))
      (ap (λ (x : Descriptor). info_of x.other) (sym is)))
  opened_left d false turn fits (the_first none one possible is) a b a' b' =
      let side = ap (λ (x : Descriptor). x.second) is in
      inl (says_tells g left (descriptor_of false first (with_gate false second.slot)) (told d)
      (are_says g left first (with_gate false second.slot) (descriptor_of false first (with_gate false second.slot)) (a' side) (b' side)
      (first_is g first (with_gate false second.slot) refl (alone_counts first second.slot (open_one first second one)) possible))
      (ap told (sym is)))
  opened_left d true turn fits (the_first none one possible is) a b a' b' =
      let side = ap (λ (x : Descriptor). x.second) is in
      let next : second.slot.turn ≡ next_turn first.slot.turn = subst (λ (x : Descriptor). x.other.turn ≡ next_turn x.counting.turn) is turn in
      let right : is_possible g second.slot ≡ true = subst (λ (x : Descriptor). is_possible g x.other ≡ true) is fits in
      inr (says_tells g left (descriptor_of true (with_gate true second.slot) first) (info_of d.other)
      (are_says g left first (with_gate true second.slot) (descriptor_of true (with_gate true second.slot) first) (a' side) (b' side)
      (second_is g first (with_gate true second.slot) (now_counts first second.slot (open_one first second one) next) right))
      (ap (λ (x : Descriptor). info_of x.other) (sym is)))

  opening_cut : (d : Descriptor) → d.other.turn ≡ next_turn d.counting.turn → is_possible g d.other ≡ true → CutGate d bytes left → Which g first second d
      → Tells g left (told d) ⊎ Tells g left (info_of d.other)
  opening_cut d turn fits cut (the_second one possible is) =
      let halves = gate_first (subst (λ x. CutGate x bytes left) is cut) in
      let other = ap (λ (x : Descriptor). x.second) is in
      opened_left d (half_in (take 16 left)).is_open turn fits (the_second one possible is) (λ _. halves.0) (λ _. halves.1)
      (λ side. absurd (apart d.second other side)) (λ side. absurd (apart d.second other side))
    where
      apart : (b : Bool) → b ≡ true → b ≡ false → ⊥
      apart true one other = cc
      apart false one other = cc
  opening_cut d turn fits cut (the_first none one possible is) =
      let halves = gate_second (subst (λ x. CutGate x bytes left) is cut) in
      let other = ap (λ (x : Descriptor). x.second) is in
      opened_left d (half_in (drop 16 left)).is_open turn fits (the_first none one possible is) (λ side. absurd (apart d.second side other)) (λ side. absurd (apart d.second side other))
      (λ _. halves.0) (λ _. halves.1)
    where
      apart : (b : Bool) → b ≡ true → b ≡ false → ⊥
      apart true one other = cc
      apart false one other = cc

-- what is left of one descriptor tells the zone as before or after
abbrev Told : Geometry → Bool → Descriptor → List ℕ → Type 0
Told g opening d left = Tells g left (told d) ⊎ ((opening ≡ true) × Tells g left (info_of d.other))

opened_told : (g : Geometry) (opening : Bool) (d : Descriptor) (left : List ℕ) → opening ≡ true → Tells g left (told d) ⊎ Tells g left (info_of d.other) → Told g opening d left
opened_told g opening d left is (inl old) = inl old
opened_told g opening d left is (inr new) = inr (is, new)

cut_tells : (g : Geometry) (opening : Bool) (d : Descriptor) (bytes left : List ℕ) → Says g bytes d → Cut g opening d bytes left → Told g opening d left
cut_tells g opening d bytes left says (Whole same) = inl (subst (λ (l : List ℕ). Tells g l (told d)) (sym same) (says_tells g bytes d (told d) says refl))
cut_tells g opening d bytes left says (Closing turn cut) = inl (closing_cut g bytes left d turn cut (says_which g bytes d says))
cut_tells g opening d bytes left says (Writing shut cut) = inl (writing_cut g bytes left d shut cut (says_which g bytes d says))
cut_tells g opening d bytes left says (Opening is turn possible cut) = opened_told g opening d left is (opening_cut g bytes left d turn possible cut (says_which g bytes d says))

all_right : (p : List ℕ → Bool) (xs : List (List ℕ)) → ((n : ℕ) → n < length xs → p (get_or xs n []) ≡ true) → list_all p xs ≡ true
all_right p [] each = refl
all_right p (x ∷ xs) each = both (p x) (list_all p xs) (each 0 (omega arith)) (all_right p xs (λ n below. each (suc n) (omega (arith, below))))

-- whatever is left of a file within a change of descriptors holds an image, and it tells each zone as before or after
module _ (g : Geometry) (opening : ℕ → Bool) (ds : List Descriptor) (bytes left : List ℕ) (was : Describes bytes g ds) (is : LeftOf g opening ds bytes left) where
  abbrev found : List (List ℕ)
  found = descriptors_in g left

  abbrev d_at : ℕ → Descriptor
  d_at n = get_or ds n no_descriptor

  one : (n : ℕ) → n < g.zones → Told g (opening n) (d_at n) (descriptor_bytes n left)
  one n in_range = cut_tells g (opening n) (d_at n) (descriptor_bytes n bytes) (descriptor_bytes n left) (descriptor_says g ds n bytes in_range was) (is.cut n in_range)

  right_here : (n : ℕ) → Told g (opening n) (d_at n) (descriptor_bytes n left) → is_descriptor g (descriptor_bytes n left) ≡ true
  right_here n (inl tells) = tells.right
  right_here n (inr tells) = tells.1.right

  old_or_new : (n : ℕ) → Told g (opening n) (d_at n) (descriptor_bytes n left) → OldOrNew (opening n) (d_at n) (told (said_in (descriptor_bytes n left)))
  old_or_new n (inl tells) = inl tells.tells
  old_or_new n (inr tells) = inr (tells.0, tells.1.tells)

  right_left : list_all (is_descriptor g) found ≡ true
  right_left = all_right (is_descriptor g) found (λ n below.
      let in_range : n < g.zones = omega (arith, below, length-descriptors g left) in
      ap (is_descriptor g) (descriptor_by_number g left n in_range) ∙ right_here n (one n in_range))

  told_left : (n : ℕ) → n < g.zones → OldOrNew (opening n) (d_at n) (info_at (infos_found g left) n)
  told_left n in_range =
      let there : n < length found = omega (arith, in_range, length-descriptors g left) in
      let said : n < length (map said_in found) = omega (arith, there, length-map found said_in) in
      let here : info_at (infos_found g left) n ≡ told (said_in (descriptor_bytes n left)) =
      get_or-map told (map said_in found) n no_descriptor no_info said ∙ ap told (get_or-map said_in found n [] no_descriptor there)
      ∙ ap (λ (l : List ℕ). told (said_in l)) (descriptor_by_number g left n in_range) in
      subst (OldOrNew (opening n) (d_at n)) (sym here) (old_or_new n (one n in_range))

  pub tells_left : TellsOldOrNew g opening ds (infos_found g left)
  tells_left = record {
    count = length-map (map said_in found) told ∙ length-map found said_in ∙ length-descriptors g left;
    each = told_left;
  }

  header_left : has_header left ≡ true
  header_left = header_same bytes left is.header is.long ∙ was.header

  pub shape_left : geometry_of left ≡ g
  shape_left = ap geometry_in is.header ∙ was.shape

  pub image_left : FitsHowever g opening ds → is_image left ≡ true
  image_left fits =
      both (has_header left) (are_possible (geometry_of left) (descriptors_in (geometry_of left) left)) header_left
      (ap (λ h. are_possible h (descriptors_in h left)) shape_left
      ∙ both (list_all (is_descriptor g) found) (nat_le (active_zones (infos_found g left)) g.active_limit) right_left
      (le-leb (active_zones (infos_found g left)) g.active_limit (fits (infos_found g left) tells_left)))

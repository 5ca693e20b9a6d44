-- What a write into the other slot of a descriptor makes it say.
use Rattle.std.proofs.Common.{◌≡◌, ◌≢◌, ℕ, ◌+◌, ◌^◌, ◌<◌, ◌≤◌, Bool, true, false, not, ◌&&◌, ◌||◌, ◌==◌, cond, List, [], ◌∷◌, ◌++◌, length, take, drop, refl, sym, ◌∙◌, ap, arith, subst, eq-eqb, length-drop, replicate}
use Rattle.std.specs.Prelude.{nat_le}
use Rattle.std.proofs.lemmas.Bool.{ne_eqb}
use Rattle.std.proofs.lemmas.Bool.Decides.{nat_tests}
use Rattle.std.proofs.lemmas.List.{take-take, length-take-le}
use Rattle.byteorder.specs.Numbers.{little_number-reads_back}
use Rattle.zone_image.specs.declared.Geometry.{Geometry}
use Rattle.zone_image.specs.declared.ZoneInfo.{ZoneInfo}
use Rattle.zone_image.specs.Infos.{IsPossibleInfo}
use Rattle.image_backend.specs.Contents.{patched}
use Rattle.power_image.specs.declared.descriptor.Slot.{Slot}
use Rattle.power_image.specs.declared.descriptor.Descriptor.{Descriptor}
use Rattle.power_image.specs.Layout.{slot_offset}
use Rattle.power_image.specs.Descriptors.{Half, half_in, slot_in, is_possible, next_turn, counts, descriptor_of, is_right, said_by, is_descriptor, said_in, rest_bytes, next_slot, closed, prepared, opened}
use Rattle.power_image.specs.Table.{Says, Turns}
use Rattle.power_image.proofs.Alone.{drop_patched, take_patched}
use Rattle.power_image.proofs.Bytes.{patched_outside, behind_same}
use Rattle.power_image.proofs.Descriptors.{first_true, second_true}

-- two slots, of which one counts: which of them, and that it is possible
pub data Which (g : Geometry) (first second : Half) (d : Descriptor) : Type 0 where
  the_second : counts second first ≡ true → is_possible g second.slot ≡ true → d ≡ descriptor_of true second first → Which g first second d
  the_first : counts second first ≡ false → counts first second ≡ true → is_possible g first.slot ≡ true → d ≡ descriptor_of false first second → Which g first second d

pub which : (g : Geometry) (first second : Half) (d : Descriptor) (one : Bool) → counts second first ≡ one → is_right g first second ≡ true → said_by first second ≡ d → Which g first second d
which g first second d true one right said =
    the_second one (sym (ap (λ b. cond b (is_possible g second.slot) (counts first second && is_possible g first.slot)) one) ∙ right)
    (sym said ∙ ap (λ b. cond b (descriptor_of true second first) (descriptor_of false first second)) one)
which g first second d false one right said =
    let both : (counts first second && is_possible g first.slot) ≡ true = sym (ap (λ b. cond b (is_possible g second.slot) (counts first second && is_possible g first.slot)) one) ∙ right in
    the_first one (first_true (counts first second) (is_possible g first.slot) both) (second_true (counts first second) (is_possible g first.slot) both)
    (sym said ∙ ap (λ b. cond b (descriptor_of true second first) (descriptor_of false first second)) one)

pub record Are (g : Geometry) (first second : Half) (d : Descriptor) : Type 0 where
  pub right : is_right g first second ≡ true
  pub said : said_by first second ≡ d

pub second_is : (g : Geometry) (first second : Half) → counts second first ≡ true → is_possible g second.slot ≡ true → Are g first second (descriptor_of true second first)
second_is g first second one possible = record {
  right = ap (λ b. cond b (is_possible g second.slot) (counts first second && is_possible g first.slot)) one ∙ possible;
  said = ap (λ b. cond b (descriptor_of true second first) (descriptor_of false first second)) one;
}

pub first_is : (g : Geometry) (first second : Half) → counts second first ≡ false → counts first second ≡ true → is_possible g first.slot ≡ true → Are g first second (descriptor_of false first second)
first_is g first second none one possible = record {
  right =
      ap (λ b. cond b (is_possible g second.slot) (counts first second && is_possible g first.slot)) none
      ∙ ap (λ b. b && is_possible g first.slot) one ∙ possible;
  said = ap (λ b. cond b (descriptor_of true second first) (descriptor_of false first second)) none;
}

pub open_one : (this other : Half) → counts this other ≡ true → this.is_open ≡ true
open_one this other one = first_true this.is_open (not other.is_open || (this.slot.turn == next_turn other.slot.turn)) one

-- a slot with its gate open or closed
abbrev pub with_gate : Bool → Slot → Half
with_gate gate slot = record { is_open = gate; slot = slot }

-- an open slot beside one that is closed
pub alone_counts : (this : Half) (other : Slot) → this.is_open ≡ true → counts this (with_gate false other) ≡ true
alone_counts this other is = ap (λ b. b && true) is

pub turns_apart : (t : ℕ) → t ≢ next_turn (next_turn t)
turns_apart t same = absurd (omega (arith, same))

-- an open slot beside one that was opened, whose turn is the next
pub passed_over : (this : Half) (other : Slot) → other.turn ≡ next_turn this.slot.turn → counts this (with_gate true other) ≡ false
passed_over this other next =
    let differs : (this.slot.turn == next_turn other.turn) ≡ false =
    ne_eqb this.slot.turn (next_turn other.turn) (λ same. turns_apart this.slot.turn (same ∙ ap next_turn next)) in
    ap (λ b. this.is_open && b) differs ∙ none this.is_open
  where
    none : (b : Bool) → (b && false) ≡ false
    none true = refl
    none false = refl

pub now_counts : (this : Half) (other : Slot) → this.is_open ≡ true → other.turn ≡ next_turn this.slot.turn → counts (with_gate true other) this ≡ true
now_counts this other is next =
    ap (λ b. not b || (other.turn == next_turn this.slot.turn)) is ∙ eq-eqb other.turn (next_turn this.slot.turn) next

-- a descriptor whose slots are these
pub are_says : (g : Geometry) (bytes : List ℕ) (first second : Half) (d : Descriptor) → half_in (take 16 bytes) ≡ first → half_in (drop 16 bytes) ≡ second → Are g first second d → Says g bytes d
unfolding is_descriptor said_in
are_says g bytes first second d front back are = record {
  right = ap (λ h. is_right g h (half_in (drop 16 bytes))) front ∙ ap (is_right g first) back ∙ are.right;
  said = ap (λ h. said_by h (half_in (drop 16 bytes))) front ∙ ap (said_by first) back ∙ are.said;
}

pub says_which : (g : Geometry) (bytes : List ℕ) (d : Descriptor) → Says g bytes d → Which g (half_in (take 16 bytes)) (half_in (drop 16 bytes)) d
unfolding is_descriptor said_in
says_which g bytes d says = which g (half_in (take 16 bytes)) (half_in (drop 16 bytes)) d (counts (half_in (drop 16 bytes)) (half_in (take 16 bytes))) refl says.right says.said

-- a gate that is written
half_gate : (v : ℕ) (slot : List ℕ) → length slot ≡ 16 → half_in (patched 0 (v ∷ []) slot) ≡ with_gate (v == 165) (slot_in slot)
half_gate v [] long = absurd (omega (arith, long))
half_gate v (g ∷ rest) long = refl

-- what is written behind a gate
half_rest : (s : Slot) (slot : List ℕ) → length slot ≡ 16 → s.written < 2 ^ 32 → half_in (patched 1 (rest_bytes s) slot) ≡ with_gate (half_in slot).is_open s
half_rest s [] long small = absurd (omega (arith, long))
half_rest s (g ∷ rest) long small = λ i. record {
  is_open = g == 165;
  slot = record { turn = s.turn; seal = s.seal; written = little_number-reads_back 4 s.written (replicate 8 0 ++ drop 16 (g ∷ rest)) small i };
}

-- a write into the first slot, or into the second
module _ (k : ℕ) (piece bytes : List ℕ) (fits : k + length piece ≤ 16) (long : length bytes ≡ 32) where
  front_long : length (take 16 bytes) ≡ 16
  front_long = length-take-le 16 bytes (omega (arith, long))

  back_long : length (drop 16 bytes) ≡ 16
  back_long = omega (arith, length-drop 16 bytes, long)

  in_bytes : k + length piece ≤ length bytes
  in_bytes = omega (arith, fits, long)

  first_front : take 16 (patched k piece bytes) ≡ patched k piece (take 16 bytes)
  first_front = take_patched 16 k piece bytes fits (omega (arith, long))

  first_back : drop 16 (patched k piece bytes) ≡ drop 16 bytes
  first_back = behind_same (patched_outside k piece bytes in_bytes) 16 fits

  second_fits : 16 + k + length piece ≤ length bytes
  second_fits = omega (arith, fits, long)

  second_front : take 16 (patched (16 + k) piece bytes) ≡ take 16 bytes
  second_front =
      let outside = patched_outside (16 + k) piece bytes second_fits in
      let behind : 16 ≤ 16 + k = omega arith in
      sym (take-take 16 (16 + k) (patched (16 + k) piece bytes) behind) ∙ ap (take 16) outside.before ∙ take-take 16 (16 + k) bytes behind

  second_back : drop 16 (patched (16 + k) piece bytes) ≡ patched k piece (drop 16 bytes)
  second_back = drop_patched 16 k piece bytes second_fits

-- the other gate is closed
closing_in : (g : Geometry) (d : Descriptor) (bytes : List ℕ) → length bytes ≡ 32 → Which g (half_in (take 16 bytes)) (half_in (drop 16 bytes)) d
    → Says g (patched (slot_offset (not d.second) + 0) (0 ∷ []) bytes) (closed d)
closing_in g d bytes long (the_second one possible is) =
    let first = half_in (take 16 bytes) in
    let second = half_in (drop 16 bytes) in
    let fits : 0 + 1 ≤ 16 = omega arith in
    subst (λ e. Says g (patched (slot_offset (not e.second) + 0) (0 ∷ []) bytes) (closed e)) (sym is)
    (are_says g (patched 0 (0 ∷ []) bytes) (with_gate false first.slot) second (closed (descriptor_of true second first))
    (ap half_in (first_front 0 (0 ∷ []) bytes fits long) ∙ half_gate 0 (take 16 bytes) (front_long 0 (0 ∷ []) bytes fits long))
    (ap half_in (first_back 0 (0 ∷ []) bytes fits long))
    (second_is g (with_gate false first.slot) second (alone_counts second first.slot (open_one second first one)) possible))
closing_in g d bytes long (the_first none one possible is) =
    let first = half_in (take 16 bytes) in
    let second = half_in (drop 16 bytes) in
    let fits : 0 + 1 ≤ 16 = omega arith in
    subst (λ e. Says g (patched (slot_offset (not e.second) + 0) (0 ∷ []) bytes) (closed e)) (sym is)
    (are_says g (patched 16 (0 ∷ []) bytes) first (with_gate false second.slot) (closed (descriptor_of false first second))
    (ap half_in (second_front 0 (0 ∷ []) bytes fits long))
    (ap half_in (second_back 0 (0 ∷ []) bytes fits long) ∙ half_gate 0 (drop 16 bytes) (back_long 0 (0 ∷ []) bytes fits long))
    (first_is g first (with_gate false second.slot) refl (alone_counts first second.slot (open_one first second one)) possible))

pub closing : (g : Geometry) (d : Descriptor) → Turns g (slot_offset (not d.second) + 0) (0 ∷ []) d (closed d)
closing g d bytes long says = closing_in g d bytes long (says_which g bytes d says)

-- other bytes stand behind the other gate, which is closed
preparing_in : (g : Geometry) (d : Descriptor) (info : ZoneInfo) (bytes : List ℕ) → length bytes ≡ 32 → info.written < 2 ^ 32 → d.other_open ≡ false
    → Which g (half_in (take 16 bytes)) (half_in (drop 16 bytes)) d → Says g (patched (slot_offset (not d.second) + 1) (rest_bytes (next_slot d info)) bytes) (prepared info d)
preparing_in g d info bytes long small shut (the_second one possible is) =
    let first = half_in (take 16 bytes) in
    let second = half_in (drop 16 bytes) in
    let e = descriptor_of true second first in
    let next = next_slot e info in
    let fits : 1 + 15 ≤ 16 = omega arith in
    let closed_gate : first.is_open ≡ false = sym (ap (λ (x : Descriptor). x.other_open) is) ∙ shut in
    subst (λ e. Says g (patched (slot_offset (not e.second) + 1) (rest_bytes (next_slot e info)) bytes) (prepared info e)) (sym is)
    (are_says g (patched 1 (rest_bytes next) bytes) (with_gate false next) second (prepared info e)
    (ap half_in (first_front 1 (rest_bytes next) bytes fits long) ∙ half_rest next (take 16 bytes) (front_long 1 (rest_bytes next) bytes fits long) small ∙ ap (λ b. with_gate b next) closed_gate)
    (ap half_in (first_back 1 (rest_bytes next) bytes fits long))
    (subst (λ b. Are g (with_gate false next) second (record { second = true; counting = second.slot; other = next; other_open = b })) (sym closed_gate)
    (second_is g (with_gate false next) second (alone_counts second next (open_one second first one)) possible)))
preparing_in g d info bytes long small shut (the_first none one possible is) =
    let first = half_in (take 16 bytes) in
    let second = half_in (drop 16 bytes) in
    let e = descriptor_of false first second in
    let next = next_slot e info in
    let fits : 1 + 15 ≤ 16 = omega arith in
    let closed_gate : second.is_open ≡ false = sym (ap (λ (x : Descriptor). x.other_open) is) ∙ shut in
    subst (λ e. Says g (patched (slot_offset (not e.second) + 1) (rest_bytes (next_slot e info)) bytes) (prepared info e)) (sym is)
    (are_says g (patched 17 (rest_bytes next) bytes) first (with_gate false next) (prepared info e)
    (ap half_in (second_front 1 (rest_bytes next) bytes fits long))
    (ap half_in (second_back 1 (rest_bytes next) bytes fits long) ∙ half_rest next (drop 16 bytes) (back_long 1 (rest_bytes next) bytes fits long) small ∙ ap (λ b. with_gate b next) closed_gate)
    (subst (λ b. Are g first (with_gate false next) (record { second = false; counting = first.slot; other = next; other_open = b })) (sym closed_gate)
    (first_is g first (with_gate false next) refl (alone_counts first next (open_one first second one)) possible)))

pub preparing : (g : Geometry) (d : Descriptor) (info : ZoneInfo) → info.written < 2 ^ 32 → d.other_open ≡ false
    → Turns g (slot_offset (not d.second) + 1) (rest_bytes (next_slot d info)) d (prepared info d)
preparing g d info small shut bytes long says = preparing_in g d info bytes long small shut (says_which g bytes d says)

-- the other gate is opened, behind which what is to count next stands
opening_in : (g : Geometry) (d : Descriptor) (bytes : List ℕ) → length bytes ≡ 32 → d.other.turn ≡ next_turn d.counting.turn → is_possible g d.other ≡ true
    → Which g (half_in (take 16 bytes)) (half_in (drop 16 bytes)) d → Says g (patched (slot_offset (not d.second) + 0) (165 ∷ []) bytes) (opened d)
opening_in g d bytes long turn fits_zone (the_second one possible is) =
    let first = half_in (take 16 bytes) in
    let second = half_in (drop 16 bytes) in
    let e = descriptor_of true second first in
    let fits : 0 + 1 ≤ 16 = omega arith in
    let is_open = open_one second first one in
    let next : first.slot.turn ≡ next_turn second.slot.turn = subst (λ (x : Descriptor). x.other.turn ≡ next_turn x.counting.turn) is turn in
    let right : is_possible g first.slot ≡ true = subst (λ (x : Descriptor). is_possible g x.other ≡ true) is fits_zone in
    subst (λ e. Says g (patched (slot_offset (not e.second) + 0) (165 ∷ []) bytes) (opened e)) (sym is)
    (are_says g (patched 0 (165 ∷ []) bytes) (with_gate true first.slot) second (opened e)
    (ap half_in (first_front 0 (165 ∷ []) bytes fits long) ∙ half_gate 165 (take 16 bytes) (front_long 0 (165 ∷ []) bytes fits long))
    (ap half_in (first_back 0 (165 ∷ []) bytes fits long))
    (subst (λ b. Are g (with_gate true first.slot) second (record { second = false; counting = first.slot; other = second.slot; other_open = b })) is_open
    (first_is g (with_gate true first.slot) second (passed_over second first.slot next) (now_counts second first.slot is_open next) right)))
opening_in g d bytes long turn fits_zone (the_first none one possible is) =
    let first = half_in (take 16 bytes) in
    let second = half_in (drop 16 bytes) in
    let e = descriptor_of false first second in
    let fits : 0 + 1 ≤ 16 = omega arith in
    let is_open = open_one first second one in
    let next : second.slot.turn ≡ next_turn first.slot.turn = subst (λ (x : Descriptor). x.other.turn ≡ next_turn x.counting.turn) is turn in
    let right : is_possible g second.slot ≡ true = subst (λ (x : Descriptor). is_possible g x.other ≡ true) is fits_zone in
    subst (λ e. Says g (patched (slot_offset (not e.second) + 0) (165 ∷ []) bytes) (opened e)) (sym is)
    (are_says g (patched 16 (165 ∷ []) bytes) first (with_gate true second.slot) (opened e)
    (ap half_in (second_front 0 (165 ∷ []) bytes fits long))
    (ap half_in (second_back 0 (165 ∷ []) bytes fits long) ∙ half_gate 165 (drop 16 bytes) (back_long 0 (165 ∷ []) bytes fits long))
    (subst (λ b. Are g first (with_gate true second.slot) (record { second = true; counting = second.slot; other = first.slot; other_open = b })) is_open
    (second_is g first (with_gate true second.slot) (now_counts first second.slot is_open next) right)))

pub opening : (g : Geometry) (d : Descriptor) → d.other.turn ≡ next_turn d.counting.turn → is_possible g d.other ≡ true → Turns g (slot_offset (not d.second) + 0) (165 ∷ []) d (opened d)
opening g d turn possible bytes long says = opening_in g d bytes long turn possible (says_which g bytes d says)

numbers_possible : (written capacity : ℕ) (sealed : Bool) → written ≤ capacity → (written ≡ capacity → sealed ≡ true)
    → (nat_le written capacity && nat_le (cond sealed 1 0) 1 && (not (written == capacity) || (cond sealed 1 0 == 1))) ≡ true
numbers_possible written capacity true room full = grind (arith, nat_tests)
numbers_possible written capacity false room full = grind (arith, nat_tests)

-- what is to count next is possible where the numbers are
pub next_possible : (g : Geometry) (d : Descriptor) (info : ZoneInfo) → IsPossibleInfo g info → is_possible g (next_slot d info) ≡ true
next_possible g d info is = numbers_possible info.written g.capacity info.sealed is.room is.full

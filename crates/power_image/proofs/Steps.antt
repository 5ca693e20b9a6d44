-- What a step for one zone leaves of what is known of all.
use Rattle.std.proofs.Common.{◌≡◌, ◌≢◌, ℕ, ◌+◌, ◌<◌, ⊎_elim, Bool, true, false, not, ◌&&◌, ◌==◌, cond, length, refl, sym, ◌∙◌, ap, subst, arith, eq-eqb}
use Rattle.std.proofs.lemmas.Bool.{cases_eq}
use Rattle.std.proofs.lemmas.List.{get_or-set_other, get_or-set_same, length-set}
use Rattle.zone_image.specs.declared.ZoneInfo.{ZoneInfo}
use Rattle.image_backend.specs.declared.table.Slot.{Slot as Numbers}
use Rattle.image_backend.specs.Table.{TableState, slot_at, slot_info}
use Rattle.power_image.specs.declared.descriptor.Descriptor.{Descriptor}
use Rattle.power_image.specs.Descriptors.{told, next_slot, closed, prepared, opened}
use Rattle.power_image.specs.Table.{Known, no_descriptor, descriptor_in, with_descriptor}
use Rattle.power_image.specs.State.{same_seal, is_pending, with_prepared, with_opened, TellsSame, AreClosed, ArePrepared, AreSettled}

-- a zone with these numbers is pending by this descriptor
abbrev pending_by : Descriptor → Numbers → Bool
pending_by d s = not (((told d).written == s.written) && same_seal (told d).sealed s.sealed)

module _ (k : Known) (zone : ℕ) (there : zone < length k.descriptors) where
  here : (d : Descriptor) → descriptor_in (with_descriptor k zone d) zone ≡ d
  here d = get_or-set_same k.descriptors zone d no_descriptor there

  elsewhere : (d : Descriptor) (n : ℕ) → n ≢ zone → descriptor_in (with_descriptor k zone d) n ≡ descriptor_in k n
  elsewhere d n differs = get_or-set_other k.descriptors zone n d no_descriptor differs

  -- a fact of each descriptor, which the changed one has too
  each : (P : ℕ → Descriptor → Type 0) (d : Descriptor) (n : ℕ) → (n ≡ zone → P n d) → (n ≢ zone → P n (descriptor_in k n)) → P n (descriptor_in (with_descriptor k zone d) n)
  each P d n changed same = ⊎_elim
      (λ is. subst (λ m. P n (descriptor_in (with_descriptor k zone d) m)) (sym is) (subst (P n) (sym (here d)) (changed is)))
      (λ differs. subst (P n) (sym (elsewhere d n differs)) (same differs))
      (cases_eq n zone)

  pub closed_more : (from : ℕ) → AreClosed k from zone → AreClosed (with_descriptor k zone (closed (descriptor_in k zone))) from (zone + 1)
  closed_more from was n least below = each (λ _ d. d.other_open ≡ false) (closed (descriptor_in k zone)) n (λ is. refl) (λ differs. was n least (omega (arith, below, differs)))

  pub closed_tells : TellsSame k (with_descriptor k zone (closed (descriptor_in k zone)))
  closed_tells n = each (λ m d. told d ≡ told (descriptor_in k m)) (closed (descriptor_in k zone)) n (λ is. ap (λ m. told (descriptor_in k m)) (sym is)) (λ differs. refl)

  abbrev info : ZoneInfo
  info = slot_info (slot_at k.zones zone)

  prepared_closed : (from to : ℕ) → AreClosed k from to → AreClosed (with_descriptor k zone (prepared info (descriptor_in k zone))) from to
  prepared_closed from to was n least below =
      each (λ _ d. d.other_open ≡ false) (prepared info (descriptor_in k zone)) n (λ is. ap (λ m. (descriptor_in k m).other_open) (sym is) ∙ was n least below) (λ differs. was n least below)

  prepared_one : (from : ℕ) → ArePrepared k from zone → ArePrepared (with_descriptor k zone (prepared info (descriptor_in k zone))) from (zone + 1)
  prepared_one from was n least below =
      each (λ m d. pending_by d (slot_at k.zones m) ≡ true → d.other ≡ next_slot d (slot_info (slot_at k.zones m))) (prepared info (descriptor_in k zone)) n
      (λ is pending. ap (λ m. next_slot (descriptor_in k zone) (slot_info (slot_at k.zones m))) (sym is))
      (λ differs. was n least (omega (arith, below, differs)))

  opened_closed : (to : ℕ) → AreClosed k zone to → AreClosed (with_descriptor k zone (opened (descriptor_in k zone))) (zone + 1) to
  opened_closed to was n least below =
      each (λ _ d. d.other_open ≡ false) (opened (descriptor_in k zone)) n (λ is. absurd (omega (arith, is, least))) (λ differs. was n (omega (arith, least)) below)

  opened_prepared : (to : ℕ) → ArePrepared k zone to → ArePrepared (with_descriptor k zone (opened (descriptor_in k zone))) (zone + 1) to
  opened_prepared to was n least below =
      each (λ m d. pending_by d (slot_at k.zones m) ≡ true → d.other ≡ next_slot d (slot_info (slot_at k.zones m))) (opened (descriptor_in k zone)) n
      (λ is. absurd (omega (arith, is, least)))
      (λ differs. was n (omega (arith, least)) below)

  told_next : (d : Descriptor) (s : Numbers) → d.other ≡ next_slot d (slot_info s) → pending_by (opened d) s ≡ false
  told_next d s next = ap (λ o. pending_by (record { second = not d.second; counting = o; other = d.counting; other_open = true }) s) next ∙ same s.sealed
    where
      same : (sealed : Bool) → not ((s.written == s.written) && same_seal (cond sealed 1 0 == 1) sealed) ≡ false
      same true = ap (λ b. not (b && true)) (eq-eqb s.written s.written refl)
      same false = ap (λ b. not (b && true)) (eq-eqb s.written s.written refl)

  opened_settled : (from : ℕ) → (descriptor_in k zone).other ≡ next_slot (descriptor_in k zone) info → AreSettled k from zone
      → AreSettled (with_descriptor k zone (opened (descriptor_in k zone))) from (zone + 1)
  opened_settled from next was n least below =
      each (λ m d. pending_by d (slot_at k.zones m) ≡ false) (opened (descriptor_in k zone)) n
      (λ is. ap (λ m. pending_by (opened (descriptor_in k zone)) (slot_at k.zones m)) is ∙ told_next (descriptor_in k zone) (slot_at k.zones zone) next)
      (λ differs. was n least (omega (arith, below, differs)))

  -- the same where the step is done for a pending zone alone
  by_pending : (P : Known → Type 0) (after : Known) (b : Bool) → is_pending k zone ≡ b → (is_pending k zone ≡ true → P after) → (is_pending k zone ≡ false → P k) → P (cond (is_pending k zone) after k)
  by_pending P after true is so else_so = subst (λ c. P (cond c after k)) (sym is) (so is)
  by_pending P after false is so else_so = subst (λ c. P (cond c after k)) (sym is) (else_so is)

  by_test : (P : Known → Type 0) (after : Known) → (is_pending k zone ≡ true → P after) → (is_pending k zone ≡ false → P k) → P (cond (is_pending k zone) after k)
  by_test P after = by_pending P after (is_pending k zone) refl

  pub prepared_keeps_closed : (from to : ℕ) → AreClosed k from to → AreClosed (with_prepared k zone) from to
  prepared_keeps_closed from to was =
      by_test (λ new. AreClosed new from to) (with_descriptor k zone (prepared info (descriptor_in k zone))) (λ _. prepared_closed from to was) (λ _. was)

  one_more : (P : ℕ → Type 0) (from n : ℕ) → (n < zone → P n) → (n ≡ zone → P n) → n < zone + 1 → P n
  one_more P from n before last below = ⊎_elim last (λ differs. before (omega (arith, differs, below))) (cases_eq n zone)

  pub prepared_more : (from : ℕ) → ArePrepared k from zone → ArePrepared (with_prepared k zone) from (zone + 1)
  prepared_more from was =
      by_test (λ new. ArePrepared new from (zone + 1)) (with_descriptor k zone (prepared info (descriptor_in k zone))) (λ _. prepared_one from was)
      (λ none n least below.
      one_more (λ m. is_pending k m ≡ true → (descriptor_in k m).other ≡ next_slot (descriptor_in k m) (slot_info (slot_at k.zones m))) from n (λ lt. was n least lt)
      (λ is pending. absurd (opposite (is_pending k zone) (ap (is_pending k) (sym is) ∙ pending) none)) below)
    where
      opposite : (b : Bool) → b ≡ true → b ≡ false → ⊥
      opposite true one other = cc
      opposite false one other = cc

  pub opened_keeps_closed : (to : ℕ) → AreClosed k zone to → AreClosed (with_opened k zone) (zone + 1) to
  opened_keeps_closed to was =
      by_test (λ new. AreClosed new (zone + 1) to) (with_descriptor k zone (opened (descriptor_in k zone))) (λ _. opened_closed to was)
      (λ _ n least below. was n (omega (arith, least)) below)

  pub opened_keeps_prepared : (to : ℕ) → ArePrepared k zone to → ArePrepared (with_opened k zone) (zone + 1) to
  opened_keeps_prepared to was =
      by_test (λ new. ArePrepared new (zone + 1) to) (with_descriptor k zone (opened (descriptor_in k zone))) (λ _. opened_prepared to was)
      (λ _ n least below. was n (omega (arith, least)) below)

  pub settled_more : (from to : ℕ) → zone < to → ArePrepared k zone to → AreSettled k from zone → AreSettled (with_opened k zone) from (zone + 1)
  settled_more from to last next was =
      by_test (λ new. AreSettled new from (zone + 1)) (with_descriptor k zone (opened (descriptor_in k zone)))
      (λ pending. opened_settled from (next zone (omega arith) last pending) was)
      (λ none n least below. one_more (λ m. is_pending k m ≡ false) from n (λ lt. was n least lt) (λ is. ap (is_pending k) is ∙ none) below)

  -- what the steps leave of the numbers and of how many descriptors there are
  pub prepared_zones : (with_prepared k zone).zones ≡ k.zones
  prepared_zones = by_test (λ new. new.zones ≡ k.zones) (with_descriptor k zone (prepared info (descriptor_in k zone))) (λ _. refl) (λ _. refl)

  pub opened_zones : (with_opened k zone).zones ≡ k.zones
  opened_zones = by_test (λ new. new.zones ≡ k.zones) (with_descriptor k zone (opened (descriptor_in k zone))) (λ _. refl) (λ _. refl)

  pub count_set : (d : Descriptor) → length (with_descriptor k zone d).descriptors ≡ length k.descriptors
  count_set d = length-set k.descriptors zone d

  pub prepared_count : length (with_prepared k zone).descriptors ≡ length k.descriptors
  prepared_count =
      by_test (λ new. length new.descriptors ≡ length k.descriptors) (with_descriptor k zone (prepared info (descriptor_in k zone))) (λ _. count_set (prepared info (descriptor_in k zone))) (λ _. refl)

  pub opened_count : length (with_opened k zone).descriptors ≡ length k.descriptors
  opened_count =
      by_test (λ new. length new.descriptors ≡ length k.descriptors) (with_descriptor k zone (opened (descriptor_in k zone))) (λ _. count_set (opened (descriptor_in k zone))) (λ _. refl)

-- descriptors that tell the same settle the same zones
pub settled_same : (old new : Known) (from to : ℕ) → new.zones ≡ old.zones → TellsSame old new → AreSettled old from to → AreSettled new from to
settled_same old new from to zones tells was n least below =
    ap (λ (info : ZoneInfo). not ((info.written == (slot_at new.zones n).written) && same_seal info.sealed (slot_at new.zones n).sealed)) (tells n)
    ∙ ap (λ (t : TableState). pending_by (descriptor_in old n) (slot_at t n)) zones ∙ was n least below

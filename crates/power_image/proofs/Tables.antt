-- Other numbers for one zone of a table.
use Rattle.std.proofs.Common.{◌≡◌, ℕ, zero, suc, ◌+◌, ◌<◌, ◌≤◌, false, List, [], ◌∷◌, length, map, replicate, get_or, set, refl, sym, ◌∙◌, ap, subst, arith, IsTrue, Bool, true, ◌||◌, ◌==◌, ⊎_elim, Result, Ok, Err}
use Rattle.std.specs.List.{All}
use Rattle.std.proofs.lemmas.Bool.{cases_eq, ne_eqb, eq-eqb, or_right}
use Rattle.std.proofs.lemmas.List.{get_or-map, length-map, map-set}
use Rattle.std.proofs.lemmas.List.Elements.{All-set, All-get_or, All-nil, All-cons, All-replicate}
use Rattle.zone_image.specs.declared.Geometry.{Geometry}
use Rattle.zone_image.specs.declared.ZoneInfo.{ZoneInfo}
use Rattle.zone_image.specs.Image.{is_valid}
use Rattle.zone_image.specs.Changes.{change_at}
use Rattle.zone_image.specs.Infos.{no_info, info_at, active_zones, info_appended, info_finished, infos_appended, infos_finished, infos_emptied, infos_blank, IsPossibleInfo, IsPossible}
use Rattle.zone_image.proofs.ImageLaws.{change_at_is}
use Rattle.zone_image.proofs.InfoLaws.{possible_appended, possible_finished, possible_emptied, valid_blank, infos-blank}
use Rattle.std.specs.Prelude.{OnOk, OnErr}
use Rattle.image_backend.specs.Contents.{SameFile}
use Rattle.image_backend.specs.ImageState.{HoldsZones, HoldsTable}
use Rattle.image_backend.specs.declared.table.Slot.{Slot}
use Rattle.image_backend.specs.Table.{TableState, slot_info, table_infos, no_slot, slot_at, with_slot, slot_appended, slot_finished, slot_synced, table_blank, table_synced, IsTable}

module _ (t : TableState) (zone : ℕ) (is : IsTable t) (in_range : zone < t.geometry.zones) where
  pub slot_there : zone < length t.slots
  slot_there = omega (arith, is.possible.count, length-map t.slots slot_info)

  info_there : zone < length (table_infos t)
  info_there = omega (arith, is.possible.count)

  -- what is told of the zone
  pub info_is : info_at (table_infos t) zone ≡ slot_info (slot_at t zone)
  info_is = get_or-map slot_info t.slots zone no_slot no_info slot_there

  -- what is told of the zone is possible
  pub info_possible : IsPossibleInfo t.geometry (info_at (table_infos t) zone)
  info_possible = All-get_or (IsPossibleInfo t.geometry) (table_infos t) zone no_info info_there is.possible.each

  -- other numbers are a change of what is told
  pub infos_with : (s : Slot) (f : ZoneInfo → ZoneInfo) → slot_info s ≡ f (info_at (table_infos t) zone) → table_infos (with_slot t zone s) ≡ change_at zone f (table_infos t)
  infos_with s f changed =
      map-set slot_info t.slots zone s ∙ ap (set (table_infos t) zone) changed ∙ sym (change_at_is zone f (table_infos t) no_info info_there)

  kept_here : (slot_at t zone).kept ≤ (slot_at t zone).written
  kept_here = All-get_or (λ (s : Slot). s.kept ≤ s.written) t.slots zone no_slot slot_there is.kept

  table_with : (s : Slot) (infos : List ZoneInfo) → table_infos (with_slot t zone s) ≡ infos → IsPossible t.geometry infos → s.kept ≤ s.written → IsTable (with_slot t zone s)
  table_with s infos told possible kept = record {
    possible = subst (IsPossible t.geometry) (sym told) possible;
    kept = All-set (λ (s : Slot). s.kept ≤ s.written) t.slots zone s kept is.kept;
  }

  pub infos_with_appended : (count : ℕ) → table_infos (with_slot t zone (slot_appended t.geometry.capacity count (slot_at t zone))) ≡ infos_appended t.geometry (table_infos t) zone count
  infos_with_appended count = infos_with (slot_appended t.geometry.capacity count (slot_at t zone)) (info_appended t.geometry.capacity count) (ap (info_appended t.geometry.capacity count) (sym info_is))

  pub infos_with_finished : table_infos (with_slot t zone (slot_finished (slot_at t zone))) ≡ infos_finished (table_infos t) zone
  infos_with_finished = infos_with (slot_finished (slot_at t zone)) info_finished (ap info_finished (sym info_is))

  pub infos_with_none : table_infos (with_slot t zone no_slot) ≡ infos_emptied (table_infos t) zone
  infos_with_none = infos_with no_slot (λ _. no_info) refl

  pub table_with_appended : (count : ℕ) → (info_at (table_infos t) zone).sealed ≡ false → (info_at (table_infos t) zone).written + count ≤ t.geometry.capacity
      → ((info_at (table_infos t) zone).written ≡ 0 → active_zones (table_infos t) < t.geometry.active_limit) → IsTable (with_slot t zone (slot_appended t.geometry.capacity count (slot_at t zone)))
  table_with_appended count unsealed room spare =
      table_with (slot_appended t.geometry.capacity count (slot_at t zone)) (infos_appended t.geometry (table_infos t) zone count) (infos_with_appended count)
      (possible_appended t.geometry (table_infos t) zone is.possible in_range count unsealed room spare) (omega (arith, kept_here))

  pub table_with_finished : IsTable (with_slot t zone (slot_finished (slot_at t zone)))
  table_with_finished =
      table_with (slot_finished (slot_at t zone)) (infos_finished (table_infos t) zone) infos_with_finished (possible_finished t.geometry (table_infos t) zone is.possible in_range) kept_here

  pub table_with_none : IsTable (with_slot t zone no_slot)
  table_with_none = table_with no_slot (infos_emptied (table_infos t) zone) infos_with_none (possible_emptied t.geometry (table_infos t) zone is.possible in_range) (omega arith)

-- the numbers that a change gives a zone are possible
module _ (t : TableState) (zone : ℕ) (is : IsTable t) (in_range : zone < t.geometry.zones) where
  pub slot_possible : IsPossibleInfo t.geometry (slot_info (slot_at t zone))
  slot_possible = subst (IsPossibleInfo t.geometry) (info_is t zone is in_range) (info_possible t zone is in_range)

  pub finished_possible : IsPossibleInfo t.geometry (slot_info (slot_finished (slot_at t zone)))
  finished_possible = record { room = slot_possible.room; full = λ _. refl }

  pub appended_possible : (count : ℕ) → (slot_at t zone).written + count ≤ t.geometry.capacity → IsPossibleInfo t.geometry (slot_info (slot_appended t.geometry.capacity count (slot_at t zone)))
  appended_possible count room = record { room = room; full = λ full. or_right (slot_at t zone).sealed _ (eq-eqb _ _ full) }

pub none_possible : (g : Geometry) → IsTrue (is_valid g) → IsPossibleInfo g (slot_info no_slot)
none_possible g valid = record { room = omega arith; full = λ full. absurd (omega (arith, least, full)) }
  where
    least : 8 ≤ g.capacity
    least = grind (arith, valid)

-- a change that leaves the item as it is
pub change_at_same : {A : Type 0} (n : ℕ) (f : A → A) (xs : List A) (d : A) → n < length xs → f (get_or xs n d) ≡ get_or xs n d → change_at n f xs ≡ xs
change_at_same n f [] d in_range same = refl
change_at_same zero f (x ∷ xs) d in_range same = ap (λ y. y ∷ xs) same
change_at_same (suc n) f (x ∷ xs) d in_range same = ap (λ l. x ∷ l) (change_at_same n f xs d (omega arith) same)

-- no block more changes nothing of a possible zone
pub info_with_none : (g : Geometry) (info : ZoneInfo) → IsPossibleInfo g info → info_appended g.capacity 0 info ≡ info
info_with_none g info is = λ i. record { written = count i; sealed = seal i }
  where
    count : info.written + 0 ≡ info.written
    count = omega arith

    or_false : (a b : Bool) → b ≡ false → (a || b) ≡ a
    or_false true b none = refl
    or_false false b none = none

    or_true : (a b : Bool) → a ≡ true → (a || b) ≡ a
    or_true a b sealed = ap (λ x. x || b) sealed ∙ sym sealed

    seal : (info.sealed || (info.written + 0 == g.capacity)) ≡ info.sealed
    seal = ⊎_elim
        (λ full. or_true info.sealed (info.written + 0 == g.capacity) (is.full full))
        (λ some. or_false info.sealed (info.written + 0 == g.capacity) (ap (λ n. n == g.capacity) count ∙ ne_eqb info.written g.capacity some))
        (cases_eq info.written g.capacity)

pub infos_with_no_more : (g : Geometry) (infos : List ZoneInfo) (zone : ℕ) → IsPossible g infos → zone < g.zones → infos_appended g infos zone 0 ≡ infos
infos_with_no_more g infos zone is in_range =
    let here : zone < length infos = omega (arith, is.count) in
    change_at_same zone (info_appended g.capacity 0) infos no_info here (info_with_none g (info_at infos zone) (All-get_or (IsPossibleInfo g) infos zone no_info here is.each))

synced_infos : (slots : List Slot) → map slot_info (map slot_synced slots) ≡ map slot_info slots
synced_infos [] = refl
synced_infos (s ∷ slots) = ap (λ l. slot_info s ∷ l) (synced_infos slots)

synced_kept : (slots : List Slot) → All (λ s. s.kept ≤ s.written) (map slot_synced slots)
synced_kept [] = All-nil (λ (s : Slot). s.kept ≤ s.written)
synced_kept (s ∷ slots) = All-cons (λ (s : Slot). s.kept ≤ s.written) (slot_synced s) (map slot_synced slots) (omega arith) (synced_kept slots)

pub infos_with_synced : (t : TableState) → table_infos (table_synced t) ≡ table_infos t
infos_with_synced t = synced_infos t.slots

pub table_with_synced : (t : TableState) → IsTable t → IsTable (table_synced t)
table_with_synced t is = record { possible = subst (IsPossible t.geometry) (sym (infos_with_synced t)) is.possible; kept = synced_kept t.slots }

blank_infos : (n : ℕ) → map slot_info (replicate n no_slot) ≡ replicate n no_info
blank_infos zero = refl
blank_infos (suc n) = ap (λ l. no_info ∷ l) (blank_infos n)

pub infos_with_blank : (g : Geometry) → table_infos (table_blank g) ≡ infos_blank g
infos_with_blank g = blank_infos g.zones

pub table_with_blank : (g : Geometry) → IsTrue (is_valid g) → IsTable (table_blank g)
table_with_blank g valid = record {
  possible = subst (IsPossible g) (infos-blank g ∙ sym (infos_with_blank g)) (valid_blank g valid).possible;
  kept = All-replicate (λ (s : Slot). s.kept ≤ s.written) g.zones no_slot (omega arith);
}

-- a change that is done or not
module _ {F T E : Type 0} (is_open is_sized : F → Type 0) (size : F → ℕ) (r : Result T E) (old done new : TableState) where
  pub either_held : (file : F) → OnOk r (new ≡ done) → OnErr r (new ≡ old) → done.geometry ≡ old.geometry → IsTable old → IsTable done
      → HoldsZones is_open is_sized size old.geometry file → HoldsTable is_open is_sized size new file
  either_held file after before shape is_old is_done zones = when r after before
    where
      when : (q : Result T E) → OnOk q (new ≡ done) → OnErr q (new ≡ old) → HoldsTable is_open is_sized size new file
      when (Ok x) is none = record {
        table = subst IsTable (sym is) is_done;
        zones = subst (λ g. HoldsZones is_open is_sized size g file) (sym (ap (λ (t : TableState). t.geometry) is ∙ shape)) zones;
      }
      when (Err e) none is = record {
        table = subst IsTable (sym is) is_old;
        zones = subst (λ g. HoldsZones is_open is_sized size g file) (sym (ap (λ (t : TableState). t.geometry) is)) zones;
      }

  pub infos_done : (infos : List ZoneInfo) → OnOk r (new ≡ done) → table_infos done ≡ infos → OnOk r (table_infos new ≡ infos)
  infos_done infos after told = when r after
    where
      when : (q : Result T E) → OnOk q (new ≡ done) → OnOk q (table_infos new ≡ infos)
      when (Ok x) is = ap table_infos is ∙ told
      when (Err e) none = tt

-- a file that stays as it was still holds the zones
pub held_same : {F : Type 0} (is_open is_sized : F → Type 0) (size : F → ℕ) {tells : Type 0} {contents : F → List ℕ} (g : Geometry) (old new : F)
    → SameFile is_open is_sized size tells contents old new → HoldsZones is_open is_sized size g old → HoldsZones is_open is_sized size g new
held_same is_open is_sized size g old new same was = record {
  opened = same.still_open was.opened;
  known = same.still_sized was.known;
  long = omega (arith, same.same_size was.known, was.long);
}

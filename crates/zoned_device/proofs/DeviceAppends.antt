-- The clauses of an append.
use Rattle.std.proofs.Common.{◌≡◌, ◌⊎◌, inl, inr, ⊎_elim, ℕ, ◌+◌, ◌-◌, ◌*◌, ◌/◌, ◌%◌, ◌≤◌, ◌<◌, min, false, List, length, take, sym, ◌∙◌, ap, subst, arith, length-take}
use Rattle.std.proofs.lemmas.Bool.{cases_eq}
use Rattle.std.proofs.lemmas.Nat.{div-add-mod'}
use Rattle.std.proofs.lemmas.List.{take_all, take_min, take-take, length-take-le, get_or-set_same}
use Rattle.zone_image.specs.declared.ZoneInfo.{ZoneInfo}
use Rattle.zone_image.specs.Image.{Image, IsCrash}
use Rattle.zone_image.specs.Changes.{blocks_in, appended}
use Rattle.zone_image.specs.Infos.{no_info, info_at, infos_of, active_zones, info_appended, infos_appended, IsValidImage, ShowsSome}
use Rattle.zone_image.specs.Moments.{PassedByAppend}
use Rattle.zone_image.proofs.BlockLaws.{length-blocks_in, All-blocks_in}
use Rattle.zone_image.proofs.ImageLaws.{change_at_is}
use Rattle.zone_image.proofs.InfoLaws.{infos-appended}
use Rattle.zoned_device.specs.Content.{Change, Append, after, Passes}
use Rattle.zoned_device.proofs.Changes.{CanAppend, append_nothing}
use Rattle.zoned_device.proofs.MemCalls.{IsFront}

-- the conditions on bytes are those on blocks
pub can_append : (i : Image) (zone : ℕ) (bytes : List ℕ) → zone < i.geometry.zones → 0 < length bytes → length bytes % i.geometry.block ≡ 0
    → (info_at (infos_of i) zone).sealed ≡ false → (info_at (infos_of i) zone).written + length bytes / i.geometry.block ≤ i.geometry.capacity
    → ((info_at (infos_of i) zone).written ≡ 0 → active_zones (infos_of i) < i.geometry.active_limit) → CanAppend i zone (blocks_in i.geometry bytes)
can_append i zone bytes is_zone some whole unsealed room active = record {
  is_zone = is_zone;
  whole = All-blocks_in i.geometry bytes whole;
  some = ⊎_elim
      (λ none. let zero : length bytes / i.geometry.block * i.geometry.block ≡ 0 * i.geometry.block = ap (λ n. n * i.geometry.block) none in absurd (omega (arith, zero, whole, some, div-add-mod' (length bytes) i.geometry.block)))
      (λ there. omega (arith, there, length-blocks_in i.geometry bytes))
      (cases_eq (length bytes / i.geometry.block) 0);
  unsealed = unsealed;
  room = omega (arith, room, length-blocks_in i.geometry bytes);
  active = active;
}

-- what stands after an append are its first blocks, some number of them
record WroteSome (i j : Image) (zone : ℕ) (added : List (List ℕ)) : Type 0 where
  pub count : ℕ
  pub some : count ≤ length added
  pub stands : j ≡ appended i zone (take count added)

module _ (i j : Image) (zone : ℕ) (added : List (List ℕ)) (can : CanAppend i zone added) (is : IsValidImage i) where
  in_range : zone < length (infos_of i)
  in_range = omega (arith, is.possible.count, can.is_zone)

  -- the number of written blocks of the zone
  written_after : (count : ℕ) → (info_at (infos_appended i.geometry (infos_of i) zone count) zone).written ≡ (info_at (infos_of i) zone).written + count
  written_after count =
      ap (λ (infos : List ZoneInfo). (info_at infos zone).written) (change_at_is zone (info_appended i.geometry.capacity count) (infos_of i) no_info in_range)
      ∙ ap (λ (info : ZoneInfo). info.written) (get_or-set_same (infos_of i) zone (info_appended i.geometry.capacity count (info_at (infos_of i) zone)) no_info in_range)

  wrote : (j ≡ i) ⊎ ((d : Change) × ((d ≡ Append zone added) ⊎ IsFront (Append zone added) d) × (j ≡ after d i)) → WroteSome i j zone added
  wrote (inl same) = record { count = 0; some = omega arith; stands = same ∙ sym (append_nothing i zone added can is) }
  wrote (inr done) = ⊎_elim
      (λ whole. record { count = length added; some = omega arith; stands = done.2 ∙ ap (λ d. after d i) whole ∙ ap (appended i zone) (sym (take_all (length added) added (omega arith))) })
      (λ front.
      let blocks : front.added ≡ added = cc (front.whole) in
      let zones : front.zone ≡ zone = cc (front.whole) in
      record {
        count = min front.count (length added);
        some = omega arith;
        stands = done.2 ∙ ap (λ d. after d i) (front.part ∙ ap (λ z. Append z (take front.count front.added)) zones ∙ ap (λ bs. Append zone (take front.count bs)) blocks) ∙ ap (appended i zone) (sym (take_min front.count added));
      })
      done.1

  pub append_shows : (j ≡ i) ⊎ ((d : Change) × ((d ≡ Append zone added) ⊎ IsFront (Append zone added) d) × (j ≡ after d i))
      → ShowsSome i.geometry (Unit {0}) zone added (infos_of i) i (infos_of j) j
  append_shows stands =
      let w = wrote stands in
      record {
        count = w.count;
        some = w.some;
        shows = record {
          same_infos = ap infos_of w.stands ∙ infos-appended i zone (take w.count added) ∙ ap (infos_appended i.geometry (infos_of i) zone) (length-take-le w.count added w.some);
          same_image = λ _. w.stands;
        };
      }

  -- the number of blocks that stand bounds what was passed
  pub written_at_most : (k : ℕ) → (info_at (infos_of i) zone).written + k ≤ (info_at (infos_of j) zone).written → (d : List (List ℕ)) → j ≡ appended i zone d → k ≤ length d
  written_at_most k le d stands =
      let number : (info_at (infos_of j) zone).written ≡ (info_at (infos_of i) zone).written + length d =
      ap (λ (infos : List ZoneInfo). (info_at infos zone).written) (ap infos_of stands ∙ infos-appended i zone d) ∙ written_after (length d) in
      omega (arith, number, le)

  pub passed_same : (k : ℕ) (x : Image) → (info_at (infos_of i) zone).written + k ≤ (info_at (infos_of j) zone).written → j ≡ i → IsCrash (appended i zone (take k added)) x → IsCrash i x
  passed_same k x le same crash =
      let none : k ≡ 0 = omega (arith, le, ap (λ (m : Image). (info_at (infos_of m) zone).written) same) in
      subst (λ m. IsCrash m x) (ap (λ n. appended i zone (take n added)) none ∙ append_nothing i zone added can is) crash

  pub passed_part : (k : ℕ) (x : Image) → (info_at (infos_of i) zone).written + k ≤ (info_at (infos_of j) zone).written
      → (d : Change) → (d ≡ Append zone added) ⊎ IsFront (Append zone added) d → j ≡ after d i → IsCrash (appended i zone (take k added)) x → Passes d i x
  passed_part k x le d (inl whole) stands crash =
      let long = written_at_most k le added (stands ∙ ap (λ e. after e i) whole) in
      subst (λ e. Passes e i x) (sym whole) (record { count = k; some = long; crash = crash })
  passed_part k x le d (inr front) stands crash =
      let blocks : front.added ≡ added = cc (front.whole) in
      let zones : front.zone ≡ zone = cc (front.whole) in
      let part : d ≡ Append zone (take front.count added) = front.part ∙ ap (λ z. Append z (take front.count front.added)) zones ∙ ap (λ bs. Append zone (take front.count bs)) blocks in
      let long = written_at_most k le (take front.count added) (stands ∙ ap (λ e. after e i) part) in
      let same : take k (take front.count added) ≡ take k added = take-take k front.count added (omega (arith, long, length-take front.count added)) in
      subst (λ e. Passes e i x) (sym part) (record { count = k; some = long; crash = subst (λ bs. IsCrash (appended i zone bs) x) (sym same) crash })

  -- the zone has as many blocks more as were written
  written_more : (d : List (List ℕ)) → j ≡ appended i zone d → (info_at (infos_of j) zone).written - (info_at (infos_of i) zone).written ≡ length d
  written_more d stands =
      let number : (info_at (infos_of j) zone).written ≡ (info_at (infos_of i) zone).written + length d =
      ap (λ (infos : List ZoneInfo). (info_at infos zone).written) (ap infos_of stands ∙ infos-appended i zone d) ∙ written_after (length d) in
      omega (arith, number)

  -- the blocks that stand more than before
  abbrev blocks_more : List (List ℕ)
  blocks_more = take ((info_at (infos_of j) zone).written - (info_at (infos_of i) zone).written) added

  -- what was passed has at most the blocks that stand
  pub within_same : (x : Image) → j ≡ i → IsCrash i x → PassedByAppend i zone blocks_more x
  within_same x same crash = record { count = 0; some = omega arith; crash = subst (λ m. IsCrash m x) (sym (append_nothing i zone added can is)) crash }

  pub within_part : (x : Image) (d : Change) → (d ≡ Append zone added) ⊎ IsFront (Append zone added) d → j ≡ after d i → Passes d i x → PassedByAppend i zone blocks_more x
  within_part x d (inl whole) stands passed =
      let more = written_more added (stands ∙ ap (λ e. after e i) whole) in
      let all : blocks_more ≡ added = take_all ((info_at (infos_of j) zone).written - (info_at (infos_of i) zone).written) added (omega (arith, more)) in
      subst (λ bs. PassedByAppend i zone bs x) (sym all) (subst (λ e. Passes e i x) whole passed)
  within_part x d (inr front) stands passed =
      let blocks : front.added ≡ added = cc (front.whole) in
      let zones : front.zone ≡ zone = cc (front.whole) in
      let part : d ≡ Append zone (take front.count added) = front.part ∙ ap (λ z. Append z (take front.count front.added)) zones ∙ ap (λ bs. Append zone (take front.count bs)) blocks in
      let more = written_more (take front.count added) (stands ∙ ap (λ e. after e i) part) in
      let number : (info_at (infos_of j) zone).written - (info_at (infos_of i) zone).written ≡ min front.count (length added) = omega (arith, more, length-take front.count added) in
      let all : blocks_more ≡ take front.count added = ap (λ n. take n added) number ∙ take_min front.count added in
      subst (λ bs. PassedByAppend i zone bs x) (sym all) (subst (λ e. Passes e i x) part passed)

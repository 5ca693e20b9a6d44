-- A changing call of a device in memory: what it leaves, and that it keeps what the device keeps.
use Rattle.std.proofs.Common.{◌≡◌, ◌⊎◌, inl, inr, ⊎_elim, ℕ, ◌<◌, ◌≤◌, Bool, true, List, take, Option, None, Some, Result, Ok, Err, refl, sym, ◌∙◌, ap, subst, arith}
use Rattle.std.specs.Prelude.{◌==◌, if◌then◌else◌, is_none, is_ok, IsErr}
use Rattle.std.proofs.lemmas.Bool.{cases_Bool, cases_eq, ne_eqb, and_parts, cases_lt}
use Rattle.zone_image.specs.Counts.{next_tick, last_tick, HasCause}
use Rattle.zone_image.specs.Image.{Image}
use Rattle.zone_image.specs.Infos.{IsValidImage}
use Rattle.zone_image.specs.Moments.{LeavesOnly}
use Rattle.zoned_device.specs.CallState.{CallState, IsWithinLimits, fault_of, begun, change_failed}
use Rattle.zoned_device.specs.Content.{Change, Append, Finish, Reset, Sync, Content, IsValidContent, Passes, AllBefore, has_room, with_change, part_of, with_part, content_after, is_done, calls_after}
use Rattle.zoned_device.specs.MemState.{MemState, tick_of, since_of}
use Rattle.zoned_device.specs.MemLaws.{at_the_end}
use Rattle.zoned_device.proofs.Changes.{CanDo, CanAppend, valid_after, passes_before, passes_valid, can_append_part, passes_part, part_of-append}
use Rattle.zoned_device.proofs.Records.{geometry-after}
use Rattle.zoned_device.proofs.Leaves.{leaves_same, leaves_change, before_later, before_push, valid_push, tick_rises}

-- what is done is the whole change, or the first blocks of an append
pub record IsFront (ch d : Change) : Type 0 where
  pub count : ℕ
  pub zone : ℕ
  pub added : List (List ℕ)
  pub whole : ch ≡ Append zone added
  pub part : d ≡ Append zone (take count added)
  pub some : count ≡ 0 → ⊥

unless_zero : (n : ℕ) (ch d : Change) → (if n == 0 then None else Some ch) ≡ Some d → d ≡ ch
unless_zero n ch d is = ⊎_elim
    (λ zero. let none : (if 0 == 0 then None else Some ch) ≡ Some d = subst (λ k. (if k == 0 then None else Some ch) ≡ Some d) zero is in cc)
    (λ some. let there : Some ch ≡ Some d = sym (ap (λ b. if b then None else Some ch) (ne_eqb n 0 some)) ∙ is in cc)
    (cases_eq n 0)

pub part_is : (f : Option ℕ) (ch d : Change) → part_of f ch ≡ Some d → (d ≡ ch) ⊎ IsFront ch d
part_is None ch d is = inl cc
part_is (Some n) (Append zone added) d is = ⊎_elim
    (λ zero. let none : part_of (Some 0) (Append zone added) ≡ Some d = subst (λ k. part_of (Some k) (Append zone added) ≡ Some d) zero is in cc)
    (λ some. let there : Some (Append zone (take n added)) ≡ Some d = sym (part_of-append n zone added some) ∙ is in inr (record { count = n; zone = zone; added = added; whole = refl; part = cc; some = some }))
    (cases_eq n 0)
part_is (Some n) (Finish zone) d is = inl (unless_zero n (Finish zone) d is)
part_is (Some n) (Reset zone) d is = inl (unless_zero n (Reset zone) d is)
part_is (Some n) Sync d is = cc

-- a part can be done where the whole can, and passes no other images
part_can : (i : Image) (ch d : Change) → (d ≡ ch) ⊎ IsFront ch d → CanDo ch i → CanDo d i
part_can i ch d (inl same) can = subst (λ e. CanDo e i) (sym same) can
part_can i ch d (inr front) can =
    let whole : CanAppend i front.zone front.added = subst (λ e. CanDo e i) front.whole can in
    subst (λ e. CanDo e i) (sym front.part) (can_append_part front.count i front.zone front.added front.some whole)

part_passes : (i j : Image) (ch d : Change) → (d ≡ ch) ⊎ IsFront ch d → Passes d i j → Passes ch i j
part_passes i j ch d (inl same) passed = subst (λ e. Passes e i j) same passed
part_passes i j ch d (inr front) passed =
    subst (λ e. Passes e i j) (sym front.whole) (passes_part front.count i j front.zone front.added (subst (λ e. Passes e i j) front.part passed))

-- nothing is done of a call that fails at once
pub nothing : (ch : Change) → part_of (Some 0) ch ≡ None
nothing (Append zone added) = refl
nothing (Finish zone) = refl
nothing (Reset zone) = refl
nothing Sync = refl

in_time : (s : CallState) (ch d : Change) → part_of (fault_of s) ch ≡ Some d → s.tick < last_tick
in_time s ch d is = ⊎_elim
    (λ before. before)
    (λ end. let none : None ≡ Some d = sym (ap (λ f. part_of f ch) (at_the_end s end) ∙ nothing ch) ∙ is in cc)
    (cases_lt s.tick last_tick)

module _ (c : Content) (s : CallState) (ch : Change) where
  -- the counts of a changing call, by whether it is done
  counted : Bool → CallState
  counted done = if done then begun s else change_failed (begun s)

  pub ticks : (calls_after s ch c).tick ≡ next_tick s.tick
  ticks = ⊎_elim
      (λ done. ap (λ b. (if b then begun s else change_failed (begun s)).tick) done)
      (λ failed. ap (λ b. (if b then begun s else change_failed (begun s)).tick) failed)
      (cases_Bool (is_done s ch c))

  pub cause : {T E : Type 0} (r : Result T E) → IsWithinLimits s → is_ok r ≡ is_done s ch c → HasCause s.faults (calls_after s ch c).faults (IsErr r)
  cause r within answer = ⊎_elim
      (λ done. subst (λ (b : Bool). HasCause s.faults (if b then begun s else change_failed (begun s)).faults (IsErr r)) (sym done) (record { never_falls = omega arith; rose = λ err. absurd (no_error r (answer ∙ done) err) }))
      (λ failed. subst (λ (b : Bool). HasCause s.faults (if b then begun s else change_failed (begun s)).faults (IsErr r)) (sym failed) (record { never_falls = omega (arith, within.faults); rose = λ err. omega arith }))
      (cases_Bool (is_done s ch c))
    where
      no_error : {T E : Type 0} (r : Result T E) → is_ok r ≡ true → IsErr r → ⊥
      no_error (Ok x) ok err = cc
      no_error (Err e) ok err = cc

  -- either nothing is done, or a part for which there is room
  pub outcome : (content_after s ch c ≡ c) ⊎ ((d : Change) × (part_of (fault_of s) ch ≡ Some d) × (content_after s ch c ≡ with_change s.tick d c))
  outcome = by_part (part_of (fault_of s) ch) refl
    where
      by_part : (p : Option Change) → part_of (fault_of s) ch ≡ p → (with_part s.tick (part_of (fault_of s) ch) c ≡ c) ⊎ ((d : Change) × (part_of (fault_of s) ch ≡ Some d) × (with_part s.tick (part_of (fault_of s) ch) c ≡ with_change s.tick d c))
      by_part None is = inl (ap (λ p. with_part s.tick p c) is)
      by_part (Some d) is = ⊎_elim
          (λ room. inr (d, is, ap (λ p. with_part s.tick p c) is ∙ ap (λ b. if b then with_change s.tick d c else c) room))
          (λ none. inl (ap (λ p. with_part s.tick p c) is ∙ ap (λ b. if b then with_change s.tick d c else c) none))
          (cases_Bool (has_room c d))

-- with the conditions of the call, on a device that is there
module _ (c : Content) (s : CallState) (ch : Change) (valid : IsValidContent c) (can : CanDo ch c.standing) (all : AllBefore s.tick c.events) (time : s.tick ≤ last_tick) where
  pub can_part : (d : Change) → part_of (fault_of s) ch ≡ Some d → CanDo d c.standing
  can_part d done = part_can c.standing ch d (part_is (fault_of s) ch d done) can

  -- the tick rises where something is done
  pub rises : (d : Change) → part_of (fault_of s) ch ≡ Some d → s.tick < (calls_after s ch c).tick
  rises d done = omega (arith, ticks c s ch, in_time s ch d done)

  pub later : s.tick ≤ (calls_after s ch c).tick
  later = omega (arith, ticks c s ch, tick_rises s.tick time)

  is : IsValidImage c.standing
  is = valid.standing

  pub stays_valid : IsValidContent (content_after s ch c)
  stays_valid = ⊎_elim
      (λ same. subst IsValidContent (sym same) valid)
      (λ done. subst IsValidContent (sym done.2) (record {
        standing = valid_after done.0 c.standing (can_part done.0 done.1) is;
        moments = valid_push c.events (record { tick = s.tick; image = c.standing; change = done.0 }) valid.moments (λ j passed. passes_valid done.0 c.standing j (can_part done.0 done.1) is passed);
      }))
      (outcome c s ch)

  pub same_geometry : (content_after s ch c).standing.geometry ≡ c.standing.geometry
  same_geometry = ⊎_elim
      (λ same. ap (λ (e : Content). e.standing.geometry) same)
      (λ done. ap (λ (e : Content). e.standing.geometry) done.2 ∙ geometry-after done.0 c.standing)
      (outcome c s ch)

  pub began : AllBefore (calls_after s ch c).tick (content_after s ch c).events
  began = ⊎_elim
      (λ same. subst (λ (e : Content). AllBefore (calls_after s ch c).tick e.events) (sym same) (before_later s.tick (calls_after s ch c).tick c.events later all))
      (λ done. subst (λ (e : Content). AllBefore (calls_after s ch c).tick e.events) (sym done.2)
      (before_push (calls_after s ch c).tick c.events (record { tick = s.tick; image = c.standing; change = done.0 }) (before_later s.tick (calls_after s ch c).tick c.events later all) (rises done.0 done.1)))
      (outcome c s ch)

  pub leaves : LeavesOnly tick_of since_of (record { content = Some c; calls = s }) (record { content = Some (content_after s ch c); calls = calls_after s ch c }) (Passes ch c.standing)
  leaves = ⊎_elim
      (λ same. subst (λ (e : Content). LeavesOnly tick_of since_of (record { content = Some c; calls = s }) (record { content = Some e; calls = calls_after s ch c }) (Passes ch c.standing)) (sym same)
      (weakened (leaves_same (Some c) s (calls_after s ch c) later (all, valid.moments)) (λ j crash. passes_before ch c.standing j can is crash)))
      (λ done. subst (λ (e : Content). LeavesOnly tick_of since_of (record { content = Some c; calls = s }) (record { content = Some e; calls = calls_after s ch c }) (Passes ch c.standing)) (sym done.2)
      (weakened (leaves_change c done.0 s (calls_after s ch c) (rises done.0 done.1) all is (can_part done.0 done.1)) (λ j passed. part_passes c.standing j ch done.0 (part_is (fault_of s) ch done.0 done.1) passed)))
      (outcome c s ch)
    where
      weakened : {a b : MemState} {P Q : Image → Type 0} → LeavesOnly tick_of since_of a b P → ((j : Image) → P j → Q j) → LeavesOnly tick_of since_of a b Q
      weakened part from = record { later = part.later; each = λ j left. from j (part.each j left); splits = part.splits; keeps = part.keeps }

-- a call that is done whole
pub done_whole : (c : Content) (s : CallState) (ch : Change) → is_done s ch c ≡ true → content_after s ch c ≡ with_change s.tick ch c
done_whole c s ch done =
    let parts = and_parts (is_none (fault_of s)) (has_room c ch) done in
    no_fault (fault_of s) parts.0 ∙ ap (λ b. if b then with_change s.tick ch c else c) parts.1
  where
    no_fault : (f : Option ℕ) → is_none f ≡ true → with_part s.tick (part_of f ch) c ≡ (if has_room c ch then with_change s.tick ch c else c)
    no_fault None none = refl
    no_fault (Some n) none = cc

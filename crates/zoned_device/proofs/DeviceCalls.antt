-- The clauses of a changing call, from what it makes of the content and the counts.
use Rattle.std.proofs.Common.{◌≡◌, ◌⊎◌, inl, inr, ⊎_elim, ℕ, ◌≤◌, ◌<◌, Bool, true, false, Option, Some, Result, Ok, Err, refl, sym, ◌∙◌, ap, subst, arith}
use Rattle.std.specs.Prelude.{is_ok, IsErr, OnOk, OnErr}
use Rattle.zone_image.specs.Counts.{next_tick, last_tick}
use Rattle.zone_image.specs.Image.{Image, IsCrash}
use Rattle.zone_image.specs.Changes.{finished, emptied}
use Rattle.zone_image.specs.Infos.{infos_of, infos_finished, infos_emptied, Shows}
use Rattle.zone_image.specs.Moments.{LeavesOnly}
use Rattle.zone_image.proofs.InfoLaws.{infos-finished, infos-emptied, infos-synced}
use Rattle.zoned_device.specs.CallState.{CallState, IsWithinLimits, fault_of}
use Rattle.zoned_device.specs.Content.{Change, Finish, Reset, Sync, Content, IsValidContent, after, Passes, AllBefore, LeftBy, part_of, with_part, with_change, content_after, is_done, calls_after}
use Rattle.zoned_device.specs.MemState.{MemState, image_of, tick_of, since_of, changed, IsKnown, HoldsMoments}
use Rattle.zoned_device.specs.MemLaws.{at_the_end}
use Rattle.zoned_device.proofs.Changes.{CanDo}
use Rattle.zoned_device.proofs.MemCalls.{IsFront, part_is, can_part, nothing, later, outcome, stays_valid, began, leaves, same_geometry, done_whole, rises}
use Rattle.zoned_device.proofs.Leaves.{push_last, tick_rises, leaves_same, leaves_change, began_later}

pub on_ok : {T E : Type 0} {P : Type 0} (r : Result T E) (done : Bool) → is_ok r ≡ done → (done ≡ true → P) → OnOk r P
on_ok (Ok x) done answer then = then (sym answer)
on_ok (Err e) done answer then = tt

pub on_err : {T E : Type 0} {P : Type 0} (r : Result T E) → P → OnErr r P
on_err (Ok x) p = tt
on_err (Err e) p = p

module _ (old : MemState) (c : Content) (s : CallState) (ch : Change) (is : ◌≡◌ {A = MemState} (record { content = Some c; calls = s }) old) (known : IsKnown old) (can : CanDo ch (image_of old))
    (all : AllBefore s.tick c.events) (within : IsWithinLimits s)
    (new : Content) (calls : CallState) (content : new ≡ content_after s ch c) (counts : calls ≡ calls_after s ch c) where
  known_c : IsValidContent c
  known_c = subst IsKnown (sym is) known

  can_c : CanDo ch c.standing
  can_c = subst (λ m. CanDo ch (image_of m)) (sym is) can

  image_is : c.standing ≡ image_of old
  image_is = ap image_of is

  pub call_valid : IsValidContent new
  call_valid = subst IsValidContent (sym content) (stays_valid c s ch known_c can_c all within.tick)

  pub call_began : AllBefore calls.tick new.events
  call_began =
      subst (λ (k : CallState). AllBefore k.tick new.events) (sym counts)
      (subst (λ (e : Content). AllBefore (calls_after s ch c).tick e.events) (sym content) (began c s ch known_c can_c all within.tick))

  pub call_geometry : new.standing.geometry ≡ (image_of old).geometry
  call_geometry = ap (λ (e : Content). e.standing.geometry) content ∙ same_geometry c s ch known_c can_c all within.tick ∙ ap (λ (i : Image). i.geometry) image_is

  pub call_leaves : LeavesOnly tick_of since_of old (record { content = Some new; calls = calls }) (Passes ch (image_of old))
  call_leaves =
      subst (λ (m : MemState). LeavesOnly tick_of since_of m (record { content = Some new; calls = calls }) (Passes ch (image_of m))) is
      (subst (λ (k : CallState). LeavesOnly tick_of since_of (record { content = Some c; calls = s }) (record { content = Some new; calls = k }) (Passes ch c.standing)) (sym counts)
      (subst (λ (e : Content). LeavesOnly tick_of since_of (record { content = Some c; calls = s }) (record { content = Some e; calls = calls_after s ch c }) (Passes ch c.standing)) (sym content)
      (leaves c s ch known_c can_c all within.tick)))

  pub call_done : is_done s ch c ≡ true → new.standing ≡ after ch (image_of old)
  call_done done = ap (λ (e : Content). e.standing) (content ∙ done_whole c s ch done) ∙ ap (after ch) image_is

  -- nothing is done, or the whole change, or the first blocks of an append
  pub call_stands : (new.standing ≡ image_of old) ⊎ ((d : Change) × ((d ≡ ch) ⊎ IsFront ch d) × (new.standing ≡ after d (image_of old)))
  call_stands = ⊎_elim
      (λ same. inl (ap (λ (e : Content). e.standing) (content ∙ same) ∙ image_is))
      (λ done. inr (done.0, part_is (fault_of s) ch done.0 done.1, ap (λ (e : Content). e.standing) (content ∙ done.2) ∙ ap (after done.0) image_is))
      (outcome c s ch)

  -- since the begin a crash might have left one of what stands, and one within what was done
  pub call_since : (j : Image) → (new.standing ≡ image_of old → IsCrash (image_of old) j)
      → ((d : Change) → (d ≡ ch) ⊎ IsFront ch d → new.standing ≡ after d (image_of old) → Passes d (image_of old) j)
      → since_of (record { content = Some new; calls = calls }) (tick_of old) j
  call_since j same done = ⊎_elim
      (λ none. let stays : new.standing ≡ image_of old = ap (λ (e : Content). e.standing) (content ∙ none) ∙ image_is in
      inl (subst (λ i. IsCrash i j) (sym stays) (same stays)))
      (λ some. let made : new.standing ≡ after some.0 (image_of old) = ap (λ (e : Content). e.standing) (content ∙ some.2) ∙ ap (after some.0) image_is in
      let passed : Passes some.0 c.standing j = subst (λ i. Passes some.0 i j) (sym image_is) (done some.0 (part_is (fault_of s) ch some.0 some.1) made) in
      let soon : s.tick < calls.tick = subst (λ (k : CallState). s.tick < k.tick) (sym counts) (rises c s ch known_c can_c all within.tick some.0 some.1) in
      let left : LeftBy (with_change s.tick some.0 c).events s.tick calls.tick j = push_last c.events (record { tick = s.tick; image = c.standing; change = some.0 }) s.tick calls.tick j (omega arith, soon, passed) in
      inr (subst (λ t. LeftBy new.events t calls.tick j) (ap tick_of is) (subst (λ (e : Content). LeftBy e.events s.tick calls.tick j) (sym (content ∙ some.2)) left)))
      (outcome c s ch)

  -- what a crash since the begin might have left is a crash of what stands, or one within what was done
  pub call_left : {R : Type 0} (j : Image) → since_of (record { content = Some new; calls = calls }) (tick_of old) j
      → (new.standing ≡ image_of old → IsCrash (image_of old) j → R)
      → ((d : Change) → (d ≡ ch) ⊎ IsFront ch d → new.standing ≡ after d (image_of old) → Passes d (image_of old) j → R) → R
  call_left j left same done =
      let since : since_of (record { content = Some (content_after s ch c); calls = calls_after s ch c }) s.tick j =
      subst (λ (k : CallState). since_of (record { content = Some (content_after s ch c); calls = k }) s.tick j) counts
      (subst (λ (e : Content). since_of (record { content = Some e; calls = calls }) s.tick j) content
      (subst (λ t. since_of (record { content = Some new; calls = calls }) t j) (sym (ap tick_of is)) left)) in
      ⊎_elim
      (λ none.
      let crash : IsCrash c.standing j = (leaves_same (Some c) s (calls_after s ch c) (later c s ch known_c can_c all within.tick) (all, known_c.moments)).each j
      (subst (λ (e : Content). since_of (record { content = Some e; calls = calls_after s ch c }) s.tick j) none since) in
      same (ap (λ (e : Content). e.standing) (content ∙ none) ∙ image_is) (subst (λ i. IsCrash i j) image_is crash))
      (λ some.
      let passed : Passes some.0 c.standing j =
      (leaves_change c some.0 s (calls_after s ch c) (rises c s ch known_c can_c all within.tick some.0 some.1) all known_c.standing (can_part c s ch known_c can_c all within.tick some.0 some.1)).each j
      (subst (λ (e : Content). since_of (record { content = Some e; calls = calls_after s ch c }) s.tick j) some.2 since) in
      done some.0 (part_is (fault_of s) ch some.0 some.1) (ap (λ (e : Content). e.standing) (content ∙ some.2) ∙ ap (after some.0) image_is) (subst (λ i. Passes some.0 i j) image_is passed))
      (outcome c s ch)

  -- at the last tick nothing is done
  pub call_ended : tick_of old ≡ last_tick → new.standing ≡ image_of old
  call_ended end =
      let fault : fault_of s ≡ Some 0 = at_the_end s (omega (arith, ap tick_of is, end)) in
      ap (λ (e : Content). e.standing) (content ∙ ap (λ f. with_part s.tick (part_of f ch) c) fault ∙ ap (λ p. with_part s.tick p c) (nothing ch)) ∙ image_is

  -- the state after the call, whole
  pub call_after : ◌≡◌ {A = MemState} (record { content = Some new; calls = calls }) (changed ch old)
  call_after = (λ i. record { content = Some (content i); calls = counts i }) ∙ ap (changed ch) is

-- what is shown after a failed finish or reset
pub shows_same : (i j : Image) → j ≡ i → Shows (Unit {0}) (infos_of i) i (infos_of j) j
shows_same i j same = record { same_infos = ap infos_of same; same_image = λ _. same }

pub finish_shows : (i j : Image) (zone : ℕ) → (j ≡ i) ⊎ ((d : Change) × ((d ≡ Finish zone) ⊎ IsFront (Finish zone) d) × (j ≡ after d i))
    → Shows (Unit {0}) (infos_of i) i (infos_of j) j ⊎ Shows (Unit {0}) (infos_finished (infos_of i) zone) (finished i zone) (infos_of j) j
finish_shows i j zone (inl same) = inl (shows_same i j same)
finish_shows i j zone (inr done) = ⊎_elim
    (λ whole. let new : j ≡ finished i zone = done.2 ∙ ap (λ d. after d i) whole in inr (record { same_infos = ap infos_of new ∙ infos-finished i zone; same_image = λ _. new }))
    (λ front. let none = front.whole in cc)
    done.1

pub reset_shows : (i j : Image) (zone : ℕ) → (j ≡ i) ⊎ ((d : Change) × ((d ≡ Reset zone) ⊎ IsFront (Reset zone) d) × (j ≡ after d i))
    → Shows (Unit {0}) (infos_of i) i (infos_of j) j ⊎ Shows (Unit {0}) (infos_emptied (infos_of i) zone) (emptied i zone) (infos_of j) j
reset_shows i j zone (inl same) = inl (shows_same i j same)
reset_shows i j zone (inr done) = ⊎_elim
    (λ whole. let new : j ≡ emptied i zone = done.2 ∙ ap (λ d. after d i) whole in inr (record { same_infos = ap infos_of new ∙ infos-emptied i zone; same_image = λ _. new }))
    (λ front. let none = front.whole in cc)
    done.1

-- a sync changes none of the told numbers
pub sync_infos : (i j : Image) → (j ≡ i) ⊎ ((d : Change) × ((d ≡ Sync) ⊎ IsFront Sync d) × (j ≡ after d i)) → infos_of j ≡ infos_of i
sync_infos i j (inl same) = ap infos_of same
sync_infos i j (inr done) = ⊎_elim
    (λ whole. ap infos_of (done.2 ∙ ap (λ d. after d i) whole) ∙ infos-synced i)
    (λ front. let none = front.whole in cc)
    done.1

-- a call that changes no image
module _ (old : MemState) (o : Option Content) (s calls : CallState) (is : ◌≡◌ {A = MemState} (record { content = o; calls = s }) old) (all : HoldsMoments s.tick o) (within : IsWithinLimits s) (ticks : calls.tick ≡ next_tick s.tick) where
  quiet_later : s.tick ≤ calls.tick
  quiet_later = omega (arith, ticks, tick_rises s.tick within.tick)

  pub quiet_began : HoldsMoments calls.tick o
  quiet_began = began_later s.tick calls.tick o quiet_later all

  pub quiet_leaves : LeavesOnly tick_of since_of old (record { content = o; calls = calls }) (IsCrash (image_of old))
  quiet_leaves = subst (λ (m : MemState). LeavesOnly tick_of since_of m (record { content = o; calls = calls }) (IsCrash (image_of m))) is (leaves_same o s calls quiet_later all)

-- a call fails exactly where it doesn't pass
pub fails_where : {T E : Type 0} (r : Result T E) (passes done : Bool) → passes ≡ done → is_ok r ≡ done → (IsErr r → passes ≡ false) × (passes ≡ false → IsErr r)
fails_where (Ok x) passes done same answer = (λ err. cc, λ failed. cc)
fails_where (Err e) passes done same answer = (λ err. same ∙ sym answer, λ failed. refl)

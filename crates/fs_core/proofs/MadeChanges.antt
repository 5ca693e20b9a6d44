-- The ends of a call that changes names, each by one lemma.
use Rattle.std.proofs.Common.{◌≡◌, ℕ, inl, inr, true, List, [], ◌∷◌, map, Ok, Err, refl, sym, ◌∙◌, ap, subst}
use Rattle.std.specs.Prelude.{IsErrOf}
use Rattle.zone_image.specs.declared.Geometry.{Geometry}
use Rattle.zone_image.specs.declared.ZoneInfo.{ZoneInfo}
use Rattle.zone_image.specs.Image.{Image}
use Rattle.zone_image.specs.Moments.{KeepsMoments}
use Rattle.record_model.specs.declared.types.Record.{Record}
use Rattle.log_model.specs.FileTree.{Change, apply}
use Rattle.log_model.specs.Headroom.{has_room}
use Rattle.log_model.specs.Mounted.{all_extents}
use Rattle.fs_model.specs.declared.error.FsError.{FsError}
use Rattle.fs_model.specs.declared.error.FsError.TheVariants.{DevFault, Stopped}
use Rattle.fs_model.specs.CrashClauses.{shown_tree}
use Rattle.fs_model.specs.FsState.{FsState, TableRow, recorded, working_of}
use Rattle.fs_model.specs.LogSteps.{FsAction, resettable_zones}
use Rattle.fs_model.specs.Trace.{Refines}
use Rattle.zoned_device.specs.DataKept.{KeepsData}
use Rattle.zoned_device.specs.DeviceSteps.{ChangesDevice}
use Rattle.zoned_device.proofs.DeviceLaws.{done_as, done_then, nothing_done}
use Rattle.zoned_device.specs.OtherData.{KeepsOtherData}
use Rattle.log_store.proofs.OtherData.{others_of_all, others_of_both, others_of_fewer}
use Rattle.change_records.specs.PinnedRows.{AreSomeOf}
use Rattle.change_records.proofs.FewerExtents.{same_extents}
use Rattle.change_steps.specs.Endings.{Ends}
use Rattle.change_steps.specs.Resetting.{IsResetting}
use Rattle.change_steps.specs.Recording.{KeepsFiles}
use Rattle.change_steps.proofs.ResetLaws.{resets_keep_files}
use Rattle.change_cover.specs.Following.{Follows}
use Rattle.change_cover.specs.Left.{IsLeftOf}
use Rattle.change_cover.specs.Rests.{AreShown, Stands}
use Rattle.change_cover.specs.SameTrees.{MountsTheSame}
use Rattle.change_cover.specs.Stored.{IsChange, blocks_on}
use Rattle.change_cover.proofs.ChangedTrees.{change_is_shown, left_after_change}
use Rattle.change_cover.proofs.LeftTrees.{crash_is_left, left_of_more, same_tree_is_left}
use Rattle.fs_tables.specs.Steps.{infos_in}
use Rattle.fs_core.specs.Changing.{HasStored, IsEarly, LeftByChange, LogGoesOn, MakesChange}
use Rattle.fs_core.specs.DeadZones.{is_free}
use Rattle.fs_core.specs.FsValue.{CanWrite}
use Rattle.fs_core.specs.Storing.{LeavesChange, StoresChange}

-- what is left of the tree before a change
before_change : (i j : Image) (s : FsState) (c : Change) → IsLeftOf i (shown_tree i s ∷ []) j → IsLeftOf i (shown_tree i s ∷ apply c (shown_tree i s) ∷ []) j
before_change i j s c left = left_of_more i j [] (shown_tree i s ∷ []) (apply c (shown_tree i s) ∷ []) left

-- or of the one after it
after_change : (i j : Image) (s : FsState) (c : Change) → IsLeftOf i (apply c (shown_tree i s) ∷ []) j → IsLeftOf i (shown_tree i s ∷ apply c (shown_tree i s) ∷ []) j
after_change i j s c left = left_of_more i j (shown_tree i s ∷ []) (apply c (shown_tree i s) ∷ []) [] left

-- an answer before anything is written is no fault
no_fault : {A : Type 0} (e : FsError) → IsEarly e → IsErrOf {T = A} (Err e) DevFault → ⊥
no_fault e early is = let same : e ≡ DevFault = cc in subst (λ why. IsEarly why) same early

-- nor one of a mount that is stopped
no_stop : {A : Type 0} (e : FsError) → IsEarly e → IsErrOf {T = A} (Err e) Stopped → ⊥
no_stop e early is = let same : e ≡ Stopped = cc in subst (λ why. IsEarly why) same early

-- the recorded extents of the same rows on the same geometry lie in the same zones
same_free : (s t : FsState) → KeepsFiles s t → (n : ℕ) → is_free t.geometry (recorded t) n ≡ is_free s.geometry (recorded s) n
same_free s t kept n = ap (λ g. is_free g (recorded t) n) kept.geometry ∙ ap (λ (rows : List TableRow). is_free s.geometry (map (λ r. r.entry) rows) n) kept.rows

-- what a stored change leaves: the device D has its members as parameters
module _ {D : Type 0} {known : D → Type 0} {geometry : D → Geometry} {infos : D → List ZoneInfo} {tells : Type 0} {image : D → Image} {tick : D → ℕ} {since : D → ℕ → Image → Type 0} {faults failed_changes : D → ℕ} (laws : KeepsMoments tells image tick since) where
  -- a refusal before anything is written
  pub nothing_made : {A : Type 0} (m : FsAction A) (c : Change) (d : D) (s : FsState) (e : FsError) → known d → Refines m s (Err e) s → IsEarly e
      → MakesChange known geometry infos tells image tick since faults failed_changes m c d d s s (Err e)
  nothing_made m c d s e is_known steps early = record {
    steps = steps;
    running = no_stop e early;
    unwritten = λ h. (refl, refl);
    device =
        done_as laws _ (LeftByChange (image d) s c)
        (nothing_done laws d (LeftByChange (image d) s c) is_known (λ j crash stands. before_change (image d) j s c (crash_is_left (image d) j s stands.rests stands.shown crash)))
        (λ none. absurd none) (λ failed. no_fault e early failed) (λ j told p. p);
    kept = record { numbers = λ n data_zone other. refl; blocks = λ told n data_zone other. refl };
    extents = same_extents (all_extents (recorded s));
    shape = refl;
    told = tt;
    writes = tt;
    stands = tt;
    shown = tt;
    done = tt;
    failed = λ failed. absurd (no_fault e early failed);
  }

  -- a fault while the record is stored
  pub not_stored : {A : Type 0} (m : FsAction A) (c : Change) (r : Record) (after : List TableRow) (blocks : List (List ℕ)) (old new : D) (s t : FsState) (F : Type 0) → F → t ≡ s
      → Refines m s (Err DevFault) s → IsChange s c r after → (tells → blocks ≡ blocks_on (image old) r)
      → ChangesDevice known geometry tells image tick since faults failed_changes old new F (LeavesChange blocks (image old) s) → KeepsData infos tells image old new
      → MakesChange known geometry infos tells image tick since faults failed_changes m c old new s t (Err DevFault)
  not_stored {A = A} m c r after blocks old new s t F fault same steps change spelled device kept =
      subst (λ u. MakesChange known geometry infos tells image tick since faults failed_changes m c old new s u (Err DevFault)) (sym same)
      (record {
        steps = steps;
        running = λ is. cc;
        unwritten = λ h. absurd h;
        device = done_as laws _ (LeftByChange (image old) s c) device (λ f. refl) (λ is. fault) (λ j told p stands. p c r after stands change (spelled told));
        kept = others_of_all (is_free s.geometry (recorded s)) kept;
        extents = same_extents (all_extents (recorded s));
        shape = refl;
        told = tt;
        writes = tt;
        stands = tt;
        shown = tt;
        done = tt;
        failed = λ failed told stands. inl refl;
      })

  -- a record that is stored, and the rows after its change
  pub has_stored : {A : Type 0} (m : FsAction A) (x : A) (c : Change) (r : Record) (after : List TableRow) (greatest : ℕ) (blocks : List (List ℕ)) (old new : D) (s s1 s2 : FsState) (F : Type 0) → (F → ⊥) → Ends m x s s2
      → s2 ≡ record s1 { rows = after; greatest = greatest } → IsChange s c r after → (tells → blocks ≡ blocks_on (image old) r) → AreShown after
      → has_room s.geometry.capacity s.geometry.block (working_of after) ≡ true → KeepsFiles s s1 → (tells → (image new).geometry ≡ (image old).geometry)
      → infos_in s1 ≡ infos new → LogGoesOn s1 → (tells → StoresChange blocks (image old) s (image new) s1.log)
      → ChangesDevice known geometry tells image tick since faults failed_changes old new F (LeavesChange blocks (image old) s) → KeepsData infos tells image old new → HasStored known geometry infos tells image tick since faults failed_changes m x c old new s s2
  has_stored m x c r after greatest blocks old new s s1 s2 F worked ends is change spelled shown room files shape told goes_on stores device kept =
      let t : FsState = record s1 { rows = after; greatest = greatest } in
      let there : tells → Stands (image old) s → Stands (image new) t = λ says stands. stores says c r after t stands change (spelled says) (record { rows = refl; log = refl }) shown in
      subst (λ u. HasStored known geometry infos tells image tick since faults failed_changes m x c old new s u) (sym is)
      (record {
        ends = subst (λ u. Ends m x s u) is ends;
        told = told;
        writes = record {
          room = subst (λ g. has_room g.capacity g.block (working_of after) ≡ true) (sym files.geometry) room;
          ends = goes_on.ends;
          active = goes_on.active;
          points = change.names.points;
          log = goes_on.log;
        };
        stands = there;
        device = done_as laws ⊥ (LeftByChange (image old) s c) device worked (λ none. absurd none) (λ j says p stands. p c r after stands change (spelled says));
        shown = λ says stands.
            change_is_shown (image old) (image new) s t c r after stands change (there says stands) refl (record { geometry = shape says; blocks = λ n data_zone other. kept.blocks says n data_zone });
        left = λ says stands k same.
            left_after_change (image old) (image new) k s t c r after stands change (there says stands) refl
            (record { geometry = shape says; blocks = λ n data_zone other. kept.blocks says n data_zone })
            (same_tree_is_left (image new) k t (there says stands) same);
        kept = kept;
        extents = change.adds.extents;
        shape = files.geometry;
      })

  -- what resets behind it keep
  kept_behind : {A : Type 0} (m : FsAction A) (x : A) (c : Change) (old mid new : D) (s s2 t : FsState) → HasStored known geometry infos tells image tick since faults failed_changes m x c old mid s s2 → IsResetting s2 t → KeepsOtherData infos tells image (is_free s2.geometry (recorded s2)) mid new
      → KeepsOtherData infos tells image (is_free s.geometry (recorded t)) old new
  kept_behind m x c old mid new s s2 t stored way kept =
      others_of_both (others_of_all (is_free s.geometry (recorded t)) stored.kept)
      (others_of_fewer (is_free s.geometry (recorded t))
      (λ n held. ap (λ g. is_free g (recorded s2) n) stored.shape ∙ ap (λ (rows : List TableRow). is_free s.geometry (map (λ r. r.entry) rows) n) (sym (resets_keep_files s2 t way).0.rows) ∙ held) kept)

  -- the extents that are recorded then
  extents_behind : {A : Type 0} (m : FsAction A) (x : A) (c : Change) (old mid : D) (s s2 t : FsState) → HasStored known geometry infos tells image tick since faults failed_changes m x c old mid s s2 → IsResetting s2 t → AreSomeOf (all_extents (recorded t)) (all_extents (recorded s))
  extents_behind m x c old mid s s2 t stored way =
      subst (λ (rows : List TableRow). AreSomeOf (all_extents (map (λ r. r.entry) rows)) (all_extents (recorded s))) (sym (resets_keep_files s2 t way).0.rows) stored.extents

  -- what a crash leaves of both
  device_behind : {A : Type 0} (m : FsAction A) (x : A) (G : Type 0) (c : Change) (old mid new : D) (s s2 : FsState) (F : Type 0) → (F → G) → (G → F) → HasStored known geometry infos tells image tick since faults failed_changes m x c old mid s s2
      → ChangesDevice known geometry tells image tick since faults failed_changes mid new F (λ j. Stands (image mid) s2 → MountsTheSame (image mid) j)
      → ChangesDevice known geometry tells image tick since faults failed_changes old new G (LeftByChange (image old) s c)
  device_behind m x G c old mid new s s2 F there back stored device =
      done_as laws G (LeftByChange (image old) s c)
      (done_then laws (LeftByChange (image old) s c) stored.device (λ none. none) device (λ j says p. p)
      (λ j says mounts stands. after_change (image old) j s c (stored.left says stands j (mounts (stored.stands says stands)))))
      there back (λ j says p. p)

  -- a fault while zones are reset behind it
  pub partly_reset : {A : Type 0} (m : FsAction A) (x : A) (c : Change) (old mid new : D) (s s2 t : FsState) (F : Type 0) → F → HasStored known geometry infos tells image tick since faults failed_changes m x c old mid s s2 → IsResetting s2 t
      → ChangesDevice known geometry tells image tick since faults failed_changes mid new F (λ j. Stands (image mid) s2 → MountsTheSame (image mid) j)
      → KeepsOtherData infos tells image (is_free s2.geometry (recorded s2)) mid new
      → MakesChange known geometry infos tells image tick since faults failed_changes m c old new s t (Err DevFault)
  partly_reset m x c old mid new s s2 t F fault stored way device kept = record {
    steps = stored.ends.fault_behind t way;
    running = λ is. cc;
    unwritten = λ h. absurd h;
    device = device_behind m x _ c old mid new s s2 F (λ f. refl) (λ is. fault) stored device;
    kept = kept_behind m x c old mid new s s2 t stored way kept;
    extents = extents_behind m x c old mid s s2 t stored way;
    shape = (resets_keep_files s2 t way).0.geometry ∙ stored.shape;
    told = tt;
    writes = tt;
    stands = tt;
    shown = tt;
    done = tt;
    failed = λ failed says stands. inr (λ k crash. stored.left says stands k (device.stands says k crash (stored.stands says stands)));
  }

  -- all of it
  pub all_made : {A : Type 0} (m : FsAction A) (x : A) (c : Change) (old mid new : D) (s s2 t : FsState) (F : Type 0) → (F → ⊥) → HasStored known geometry infos tells image tick since faults failed_changes m x c old mid s s2 → IsResetting s2 t → resettable_zones t ≡ []
      → ChangesDevice known geometry tells image tick since faults failed_changes mid new F (λ j. Stands (image mid) s2 → MountsTheSame (image mid) j)
      → KeepsOtherData infos tells image (is_free s2.geometry (recorded s2)) mid new
      → infos_in t ≡ infos new → (CanWrite s2 → CanWrite t) → (tells → Stands (image mid) s2 → Follows (image mid) (image new) s2 t)
      → MakesChange known geometry infos tells image tick since faults failed_changes m c old new s t (Ok x)
  all_made m x c old mid new s s2 t F worked stored way none device kept told writes follows = record {
    steps = stored.ends.complete t way none;
    running = λ is. cc;
    unwritten = λ h. absurd h;
    device = device_behind m x _ c old mid new s s2 F (λ f. absurd (worked f)) (λ is. cc) stored device;
    kept = kept_behind m x c old mid new s s2 t stored way kept;
    extents = extents_behind m x c old mid s s2 t stored way;
    shape = (resets_keep_files s2 t way).0.geometry ∙ stored.shape;
    told = told;
    writes = writes stored.writes;
    stands = λ says stands. (follows says (stored.stands says stands)).stands;
    shown = λ says stands. (follows says (stored.stands says stands)).tree ∙ stored.shown says stands;
    done = λ says stands k crash. stored.left says stands k (device.stands says k crash (stored.stands says stands));
    failed = λ failed. cc;
  }

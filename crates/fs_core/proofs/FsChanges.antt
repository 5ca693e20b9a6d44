-- A mounted file system behind a change of names.
use Rattle.std.proofs.Common.{◌≡◌, ℕ, ◌⊎◌, ⊎_elim, inl, inr, Bool, true, false, List, [], ◌∷◌, Result, Ok, Err, refl, sym, ◌∙◌, ap, subst}
use Rattle.std.specs.Prelude.{All}
use Rattle.std.proofs.lemmas.List.Elements.{All-nil, All-cons, All-head, All-tail}
use Rattle.zone_image.specs.declared.Geometry.{Geometry}
use Rattle.zone_image.specs.declared.ZoneInfo.{ZoneInfo}
use Rattle.zone_image.specs.Image.{Image, IsCrash}
use Rattle.zone_image.specs.Infos.{IsImage}
use Rattle.zone_image.specs.Moments.{KeepsMoments, LeavesOnly}
use Rattle.zone_image.proofs.MomentLaws.{weaker}
use Rattle.record_model.specs.declared.types.Extent.{Extent}
use Rattle.log_model.specs.FileTree.{Change}
use Rattle.log_model.specs.Mounted.{all_extents, tree_of}
use Rattle.fs_model.specs.declared.error.FsError.{FsError}
use Rattle.fs_model.specs.declared.error.FsError.TheVariants.{Stopped, Gone, InUse, NotFound, Exists, IdsEnd, SequenceEnd, MetaFull, NoSpace, Busy, NoMemory, DevFault}
use Rattle.fs_model.specs.FsState.{FsState, recorded}
use Rattle.fs_model.specs.LogSteps.{FsAction}
use Rattle.change_records.specs.PinnedRows.{AreSomeOf}
use Rattle.change_cover.specs.Rests.{AreShown, Stands}
use Rattle.mount_replay.specs.Rules.{IsWrittenExtent}
use Rattle.fs_core.specs.Beginning.{stopped_by}
use Rattle.fs_core.specs.Changing.{IsUnwritten, LeavesBoth, MakesChange}
use Rattle.fs_core.specs.DeadZones.{is_free}
use Rattle.fs_core.specs.FsValue.{FsValue, IsMounted}
use Rattle.fs_core.proofs.HeldBytes.{bytes_still, written_still}

-- what holds of each of some extents holds of some of these
all_some : (P : Extent → Type 0) (xs ys : List Extent) → AreSomeOf xs ys → All P ys → All P xs
all_some P xs [] none all = subst (λ (es : List Extent). All P es) (sym none) (All-nil P)
all_some P xs (y ∷ ys) some all =
    ⊎_elim (λ fewer. all_some P xs ys fewer (All-tail P y ys all))
    (λ kept. subst (λ (es : List Extent). All P es) (sym kept.1) (All-cons P y kept.0 (All-head P y ys all) (all_some P kept.0 ys kept.2 (All-tail P y ys all)))) some

-- an answer stops a mount, or comes before anything is written
stops_or_not : (A : Type 0) (e : FsError) → (e ≡ DevFault) ⊎ ((stopped_by {A = A} false (Err e) ≡ false) × IsUnwritten {A = A} (Err e))
stops_or_not A DevFault = inl refl
stops_or_not A Stopped = inr (refl, tt)
stops_or_not A Gone = inr (refl, tt)
stops_or_not A InUse = inr (refl, tt)
stops_or_not A NotFound = inr (refl, tt)
stops_or_not A Exists = inr (refl, tt)
stops_or_not A IdsEnd = inr (refl, tt)
stops_or_not A SequenceEnd = inr (refl, tt)
stops_or_not A (MetaFull need capacity) = inr (refl, tt)
stops_or_not A NoSpace = inr (refl, tt)
stops_or_not A Busy = inr (refl, tt)
stops_or_not A NoMemory = inr (refl, tt)

-- a mount that writes, with its device
abbrev pub writing_value : {D : Type 0} → FsState → Bool → D → FsValue D
writing_value s stopped dev = record { state = s; writing = true; stopped = stopped; device = dev }

-- the members of a device that say what is mounted
module _ {D : Type 0} {known : D → Type 0} {geometry : D → Geometry} {infos : D → List ZoneInfo} {tells : Type 0} {image : D → Image} where
  -- the state of a mount that writes stands
  pub stands_now : (s : FsState) (dev : D) → IsMounted known geometry infos tells image (writing_value s false dev) → AreShown s.rows → tells → Stands (image dev) s
  stands_now s dev mounted shown says = record { rests = mounted.rests refl refl says; shown = shown; points = (mounted.writes refl refl).points }

  -- a mount that writes and isn't stopped
  pub mounted_running : (s : FsState) (dev : D) (writing stopped : Bool) → writing ≡ true → stopped ≡ false
      → IsMounted known geometry infos tells image (record { state = s; writing = writing; stopped = stopped; device = dev }) → IsMounted known geometry infos tells image (writing_value s false dev)
  mounted_running s dev writing stopped writes runs mounted =
      subst (λ (b : Bool). IsMounted known geometry infos tells image (writing_value s b dev)) runs
      (subst (λ (w : Bool). IsMounted known geometry infos tells image (record { state = s; writing = w; stopped = stopped; device = dev })) writes mounted)

  -- the other way round
  pub mounted_so : (s : FsState) (dev : D) (writing stopped now : Bool) → writing ≡ true → stopped ≡ now → IsMounted known geometry infos tells image (writing_value s now dev)
      → IsMounted known geometry infos tells image (record { state = s; writing = writing; stopped = stopped; device = dev })
  mounted_so s dev writing stopped now writes is mounted =
      subst (λ (w : Bool). IsMounted known geometry infos tells image (record { state = s; writing = w; stopped = stopped; device = dev })) (sym writes)
      (subst (λ (b : Bool). IsMounted known geometry infos tells image (writing_value s b dev)) (sym is) mounted)

-- with those that say what was passed
module _ {D : Type 0} {known : D → Type 0} {geometry : D → Geometry} {infos : D → List ZoneInfo} {tells : Type 0} {image : D → Image} {tick : D → ℕ} {since : D → ℕ → Image → Type 0} {faults failed_changes : D → ℕ} where
  -- what is recorded then was written before
  recorded_before : {A : Type 0} (m : FsAction A) (c : Change) (old new : D) (s t : FsState) (result : Result A FsError) → IsMounted known geometry infos tells image (writing_value s false old)
      → MakesChange known geometry infos tells image tick since faults failed_changes m c old new s t result → All (IsWrittenExtent s.geometry (infos old)) (all_extents (recorded t))
  recorded_before m c old new s t result mounted made = all_some (IsWrittenExtent s.geometry (infos old)) (all_extents (recorded t)) (all_extents (recorded s)) made.extents mounted.held.written

  -- and is still
  recorded_still : {A : Type 0} (m : FsAction A) (c : Change) (old new : D) (s t : FsState) (result : Result A FsError) → IsMounted known geometry infos tells image (writing_value s false old)
      → MakesChange known geometry infos tells image tick since faults failed_changes m c old new s t result → All (IsWrittenExtent t.geometry (infos new)) (all_extents (recorded t))
  recorded_still m c old new s t result mounted made =
      subst (λ g. All (IsWrittenExtent g (infos new)) (all_extents (recorded t))) (sym made.shape)
      (written_still s.geometry (infos old) (infos new) (recorded t) (recorded_before m c old new s t result mounted made)
      (λ n data_zone held. ap (λ (info : ZoneInfo). info.written) (made.kept.numbers n data_zone held)))

  -- the mount holds still, by its answer
  pub still_mounted : {A : Type 0} (m : FsAction A) (c : Change) (old new : D) (s t : FsState) (result : Result A FsError) → IsMounted known geometry infos tells image (writing_value s false old) → AreShown s.rows
      → MakesChange known geometry infos tells image tick since faults failed_changes m c old new s t result → IsMounted known geometry infos tells image (writing_value t (stopped_by false result) new)
  still_mounted m c old new s t (Ok x) mounted shown made = record {
    held = record {
      is_known = made.device.still_known;
      same_geometry = made.device.same_geometry ∙ mounted.held.same_geometry ∙ sym made.shape;
      written = recorded_still m c old new s t (Ok x) mounted made;
      told = λ running. made.told;
    };
    reads = λ idle. cc;
    writes = λ writing running. made.writes;
    rests = λ writing running says. (made.stands says (stands_now s old mounted shown says)).rests;
  }
  still_mounted {A = A} m c old new s t (Err e) mounted shown made =
      ⊎_elim
      (λ fault. subst (λ (b : Bool). IsMounted known geometry infos tells image (writing_value t b new)) (sym (ap (λ why. stopped_by {A = A} false (Err why)) fault))
      (record {
        held = record {
          is_known = made.device.still_known;
          same_geometry = made.device.same_geometry ∙ mounted.held.same_geometry ∙ sym made.shape;
          written = recorded_still m c old new s t (Err e) mounted made;
          told = λ running. cc;
        };
        reads = λ idle. cc;
        writes = λ writing running. cc;
        rests = λ writing running. cc;
      }))
      (λ early. let same = made.unwritten early.1 in
      subst (λ (b : Bool). IsMounted known geometry infos tells image (writing_value t b new)) (sym early.0)
      (subst (λ u. IsMounted known geometry infos tells image (writing_value u false new)) (sym same.1)
      (subst (λ d. IsMounted known geometry infos tells image (writing_value s false d)) (sym same.0) mounted)))
      (stops_or_not A e)

  -- what is recorded has its bytes
  pub same_bytes : {A : Type 0} (m : FsAction A) (c : Change) (old new : D) (s t : FsState) (result : Result A FsError) → ((e : D) → tells → known e → IsImage (geometry e) (infos e) (image e))
      → IsMounted known geometry infos tells image (writing_value s false old) → MakesChange known geometry infos tells image tick since faults failed_changes m c old new s t result
      → tells → tree_of (image new) (recorded t) ≡ tree_of (image old) (recorded t)
  same_bytes m c old new s t result image_told mounted made says =
      let before = image_told old says mounted.held.is_known in
      let shape = before.shape ∙ mounted.held.same_geometry in
      bytes_still (image old) (image new) (infos old) (recorded t) (recorded t)
      ((image_told new says made.device.still_known).shape ∙ made.device.same_geometry ∙ sym before.shape)
      (subst (λ g. All (IsWrittenExtent g (infos old)) (all_extents (recorded t))) (sym shape) (recorded_before m c old new s t result mounted made)) refl
      (λ n data_zone held. made.kept.blocks says n data_zone (ap (λ g. is_free g (recorded t) n) (sym shape) ∙ held))

  -- what a crash at any moment leaves
  pub any_moment : {A : Type 0} (laws : KeepsMoments tells image tick since) (m : FsAction A) (c : Change) (old new : D) (s t : FsState) (result : Result A FsError)
      → IsMounted known geometry infos tells image (writing_value s false old) → AreShown s.rows → MakesChange known geometry infos tells image tick since faults failed_changes m c old new s t result
      → (b : Bool) → LeavesOnly tick since old new (λ j. b ≡ false → LeavesBoth (image old) s c j)
  any_moment laws m c old new s t result mounted shown made b =
      weaker laws (λ j. b ≡ false → LeavesBoth (image old) s c j) made.device.passes (λ j says left running. left (stands_now s old mounted shown says))

  -- and what one of the image that stands leaves
  pub standing : {A : Type 0} (m : FsAction A) (c : Change) (old new : D) (s t : FsState) (result : Result A FsError)
      → IsMounted known geometry infos tells image (writing_value s false old) → AreShown s.rows → MakesChange known geometry infos tells image tick since faults failed_changes m c old new s t result
      → (b : Bool) → tells → (j : Image) → IsCrash (image new) j → b ≡ false → LeavesBoth (image old) s c j
  standing m c old new s t result mounted shown made b says j crash running = made.device.stands says j crash (stands_now s old mounted shown says)

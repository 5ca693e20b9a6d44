-- What the calls of a device leave and pass, each by one fact.
use Rattle.std.proofs.Common.{◌≡◌, ℕ, ◌⊎◌, inl, inr, ⊎_elim, List, length, Result, Ok, Err, refl, sym, ◌∙◌, ap, subst, arith}
use Rattle.std.specs.Prelude.{IsErr, OnOk, OnErr}
use Rattle.std.specs.List.{All}
use Rattle.std.proofs.lemmas.List.{take_all}
use Rattle.zone_image.specs.declared.Geometry.{Geometry}
use Rattle.zone_image.specs.declared.ZoneInfo.{ZoneInfo}
use Rattle.zone_image.specs.Image.{Image, IsCrash}
use Rattle.zone_image.specs.Changes.{appended, finished, emptied, synced}
use Rattle.zone_image.specs.Infos.{infos_emptied, infos_finished, IsZone, IsPossible, IsImage, IsValidImage, Shows, ShowsSome}
use Rattle.zone_image.specs.Moments.{PassedByAppend, PassedByFinish, PassedByReset, KeepsMoments}
use Rattle.zone_image.specs.Reads.{OnlyReads}
use Rattle.zone_image.specs.Counts.{Counts, HasCause, next_count}
use Rattle.zone_image.proofs.CrashLaws.{crash_before_sync}
use Rattle.zone_image.proofs.MomentLaws.{stays, goes_on, weaker}
use Rattle.zoned_device.specs.DeviceSteps.{ChangesDevice, MayCount, Then}

-- an image of a device is one that it may have
pub valid_image : (g : Geometry) (infos : List ZoneInfo) (i : Image) → IsPossible g infos → IsImage g infos i → IsValidImage i
valid_image g infos i possible image = record {
  possible = subst (λ is. IsPossible i.geometry is) (sym image.told) (subst (λ h. IsPossible h infos) (sym image.shape) possible);
  zones = subst (λ h. All (IsZone h) i.zones) (sym image.shape) image.zones;
}

-- a call that counts its failure may count it
pub counts_may : {T E : Type 0} (before now : ℕ) (r : Result T E) → Counts before now r → MayCount before now (IsErr r)
counts_may before now (Ok x) same = inl same
counts_may before now (Err e) more = inr (refl, more)

-- what stands after a sync
pub sync_stands : {E : Type 0} {tells : Type 0} (i s : Image) (r : Result (Unit {0}) E) → tells → IsValidImage i → OnOk r (tells → s ≡ synced i) → OnErr r (tells → s ≡ i)
    → (j : Image) → IsCrash s j → IsCrash i j
sync_stands i s (Ok x) told valid done failed j crash = crash_before_sync i j valid (subst (λ x. IsCrash x j) (done told) crash)
sync_stands i s (Err e) told valid done failed j crash = subst (λ x. IsCrash x j) (failed told) crash

-- what stands after a reset
pub reset_stands : {E : Type 0} {tells : Type 0} (infos new : List ZoneInfo) (i s : Image) (zone : ℕ) (r : Result (Unit {0}) E) → tells → OnOk r (tells → s ≡ emptied i zone)
    → OnErr r (Shows tells infos i new s ⊎ Shows tells (infos_emptied infos zone) (emptied i zone) new s) → (j : Image) → IsCrash s j → PassedByReset i zone j
reset_stands infos new i s zone (Ok x) told done failed j crash = inr (subst (λ x. IsCrash x j) (done told) crash)
reset_stands infos new i s zone (Err e) told done failed j crash =
    ⊎_elim (λ same. inl (subst (λ x. IsCrash x j) (same.same_image told) crash)) (λ made. inr (subst (λ x. IsCrash x j) (made.same_image told) crash)) failed

-- what stands after a finish
pub finish_stands : {E : Type 0} {tells : Type 0} (infos new : List ZoneInfo) (i s : Image) (zone : ℕ) (r : Result (Unit {0}) E) → tells → OnOk r (tells → s ≡ finished i zone)
    → OnErr r (Shows tells infos i new s ⊎ Shows tells (infos_finished infos zone) (finished i zone) new s) → (j : Image) → IsCrash s j → PassedByFinish i zone j
finish_stands infos new i s zone (Ok x) told done failed j crash = inr (subst (λ x. IsCrash x j) (done told) crash)
finish_stands infos new i s zone (Err e) told done failed j crash =
    ⊎_elim (λ same. inl (subst (λ x. IsCrash x j) (same.same_image told) crash)) (λ made. inr (subst (λ x. IsCrash x j) (made.same_image told) crash)) failed

-- a whole append is one of its fronts
pub whole_append : (i s j : Image) (zone : ℕ) (added : List (List ℕ)) → s ≡ appended i zone added → IsCrash s j → PassedByAppend i zone added j
whole_append i s j zone added done crash = record {
  count = length added;
  some = omega arith;
  crash = subst (λ bs. IsCrash (appended i zone bs) j) (sym (take_all (length added) added (omega arith))) (subst (λ x. IsCrash x j) done crash);
}

-- what stands after an append that failed
pub failed_append : {tells : Type 0} (g : Geometry) (infos new : List ZoneInfo) (i s j : Image) (zone : ℕ) (added : List (List ℕ)) → tells
    → ShowsSome g tells zone added infos i new s → IsCrash s j → PassedByAppend i zone added j
failed_append g infos new i s j zone added told shows crash = record {
  count = shows.count;
  some = shows.some;
  crash = subst (λ x. IsCrash x j) (shows.shows.same_image told) crash;
}

-- one part of the work after another. D is the device's type, with its members.
module _ {D : Type 0} {known : D → Type 0} {geometry : D → Geometry} {tells : Type 0} {image : D → Image} {tick : D → ℕ} {since : D → ℕ → Image → Type 0} {faults failed_changes : D → ℕ} (laws : KeepsMoments tells image tick since) where
  -- where no call is made nothing is changed
  pub nothing_done : (d : D) (P : Image → Type 0) → known d → ((j : Image) → IsCrash (image d) j → P j) → ChangesDevice known geometry tells image tick since faults failed_changes d d ⊥ P
  nothing_done d P is_known from = record {
    still_known = is_known;
    same_geometry = refl;
    passes = weaker laws P (stays laws d) (λ j told crash. from j crash);
    stands = λ told j crash. from j crash;
    cause = record { never_falls = omega arith; rose = λ none. absurd none };
    changes = inl refl;
  }

  -- the same with an answer that is no fault
  pub done_as : {a b : D} {F : Type 0} (G : Type 0) {P : Image → Type 0} (Q : Image → Type 0) → ChangesDevice known geometry tells image tick since faults failed_changes a b F P
      → (F → G) → (G → F) → ((j : Image) → tells → P j → Q j) → ChangesDevice known geometry tells image tick since faults failed_changes a b G Q
  done_as G Q part there back from = record {
    still_known = part.still_known;
    same_geometry = part.same_geometry;
    passes = weaker laws Q part.passes from;
    stands = λ told j crash. from j told (part.stands told j crash);
    cause = record { never_falls = part.cause.never_falls; rose = λ failed. part.cause.rose (back failed) };
    changes = ⊎_elim (λ same. inl same) (λ more. inr (there more.0, more.1)) part.changes;
  }

  -- the next part, after one that answered no fault
  pub done_then : {a b c : D} {F G : Type 0} {P Q : Image → Type 0} (R : Image → Type 0) → ChangesDevice known geometry tells image tick since faults failed_changes a b F P → (F → ⊥)
      → ChangesDevice known geometry tells image tick since faults failed_changes b c G Q → ((j : Image) → tells → P j → R j) → ((j : Image) → tells → Q j → R j)
      → ChangesDevice known geometry tells image tick since faults failed_changes a c G R
  done_then {a} {b} {c} R first worked second from_first from_second =
      let same : failed_changes b ≡ failed_changes a = ⊎_elim (λ s. s) (λ more. absurd (worked more.0)) first.changes in
      record {
        still_known = second.still_known;
        same_geometry = second.same_geometry ∙ first.same_geometry;
        passes = goes_on laws R first.passes second.passes from_first from_second;
        stands = λ told j crash. from_second j told (second.stands told j crash);
        cause = record {
          never_falls = omega (arith, first.cause.never_falls, second.cause.never_falls);
          rose = λ failed. omega (arith, first.cause.never_falls, second.cause.rose failed);
        };
        changes = ⊎_elim (λ s. inl (s ∙ same)) (λ more. inr (more.0, more.1 ∙ ap next_count same)) second.changes;
      }

  -- two parts of the work, the second at what the first one makes
  pub both_done : {a b c : D} {F G : Type 0} (First Second : Image → Image → Type 0) (made : Image → Image) → ChangesDevice known geometry tells image tick since faults failed_changes a b F (First (image a)) → (F → ⊥)
      → (tells → image b ≡ made (image a)) → ChangesDevice known geometry tells image tick since faults failed_changes b c G (Second (image b))
      → ChangesDevice known geometry tells image tick since faults failed_changes a c G (Then First made Second (image a))
  both_done {a} First Second made first worked is second =
      done_then (Then First made Second (image a)) first worked second (λ j told p. inl p) (λ j told q. inr (subst (λ i. Second i j) (is told) q))

  -- the first part alone
  pub first_done : {a b : D} {F : Type 0} (First Second : Image → Image → Type 0) (made : Image → Image) → ChangesDevice known geometry tells image tick since faults failed_changes a b F (First (image a))
      → ChangesDevice known geometry tells image tick since faults failed_changes a b F (Then First made Second (image a))
  first_done {a} First Second made first = done_as _ (Then First made Second (image a)) first (λ f. f) (λ f. f) (λ j told p. inl p)

  -- a part that only reads
  pub only_read : {a b : D} {infos : D → List ZoneInfo} {F : Type 0} → OnlyReads known geometry infos tells image tick since failed_changes a b → HasCause (faults a) (faults b) F
      → ChangesDevice known geometry tells image tick since faults failed_changes a b F (IsCrash (image a))
  only_read {a} reads cause = record {
    still_known = reads.still_known;
    same_geometry = reads.same_geometry;
    passes = reads.passes;
    stands = λ told j crash. subst (λ i. IsCrash i j) (reads.same_image told) crash;
    cause = cause;
    changes = inl reads.same_changes;
  }

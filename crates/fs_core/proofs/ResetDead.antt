-- A zone without extents is reset while the state stands.
use Rattle.std.proofs.Common.{◌≡◌, ℕ, zero, suc, ◌<◌, Bool, true, false, not, ◌||◌, ◌==◌, List, [], ◌∷◌, map, refl, sym, ◌∙◌, ap, subst}
use Rattle.std.specs.List.{AllByRecursion, list_any}
use Rattle.std.proofs.lemmas.Bool.{eqb-true, false≢true}
use Rattle.zone_image.specs.declared.Geometry.{Geometry}
use Rattle.zone_image.specs.declared.ZoneInfo.{ZoneInfo}
use Rattle.zone_image.specs.Image.{Image, zone_of}
use Rattle.zone_image.specs.Changes.{change_at, emptied}
use Rattle.zone_image.specs.Infos.{IsImage, IsPossible, IsValidImage, infos_emptied, no_info}
use Rattle.zone_image.specs.Moments.{PassedByReset}
use Rattle.record_model.specs.declared.types.Extent.{Extent}
use Rattle.log_model.specs.FileTable.{Table}
use Rattle.log_model.specs.Mounted.{all_extents}
use Rattle.fs_model.specs.FsState.{FsState, TableRow, ZoneDescriptor, on_descriptor, recorded}
use Rattle.log_store.proofs.ResetLaws.{emptied_valid, rests_without_zone}
use Rattle.change_steps.specs.Resetting.{IsResetting, after_reset}
use Rattle.change_steps.proofs.ResetLaws.{resets_keep_files}
use Rattle.change_cover.specs.Following.{Follows}
use Rattle.change_cover.specs.Rests.{Stands}
use Rattle.change_cover.specs.Resets.{HasNothingIn}
use Rattle.change_cover.specs.SameTrees.{MountsTheSame}
use Rattle.change_cover.proofs.FollowLaws.{follows_itself, reset_follows}
use Rattle.change_cover.proofs.ResetZones.{dead_zone_has_nothing, emptied_keeps_blocks, reset_mounts_the_same}
use Rattle.fs_tables.specs.Dead.{IsNextReset}
use Rattle.fs_tables.specs.Steps.{infos_in}
use Rattle.fs_core.specs.DeadZones.{is_free}

-- the numbers and seals of descriptors of which one was reset
descriptors_emptied : (zone : ℕ) (zs : List ZoneDescriptor)
    → map (λ z. z.info) (on_descriptor zone (λ z. record z { info = record { written = 0; sealed = false } }) zs) ≡ change_at zone (λ _. no_info) (map (λ z. z.info) zs)
descriptors_emptied zone [] = refl
descriptors_emptied zero (z ∷ zs) = refl
descriptors_emptied (suc n) (z ∷ zs) = ap (λ is. z.info ∷ is) (descriptors_emptied n zs)

-- the numbers and seals after a reset
pub infos_reset : (s : FsState) (zone : ℕ) → infos_in (after_reset zone s) ≡ infos_emptied (infos_in s) zone
infos_reset s zone = descriptors_emptied zone s.zones

-- a test that fails of each of some extents fails of any
none_there : (p : Extent → Bool) (xs : List Extent) → AllByRecursion (λ x. p x ≡ false) xs → list_any p xs ≡ false
none_there p [] h = refl
none_there p (x ∷ xs) h = ap (λ b. b || list_any p xs) h.0 ∙ none_there p xs h.1

-- a zone that isn't free is none in which no extent lies
not_that_one : (g : Geometry) (es : Table) (zone n : ℕ) (b : Bool) → AllByRecursion (λ x. (zone_of g x.start == zone) ≡ false) (all_extents es) → is_free g es n ≡ false → (n == zone) ≡ b → b ≡ false
not_that_one g es zone n true none held is =
    absurd (false≢true (sym held ∙ ap (is_free g es) (eqb-true n zone is) ∙ ap not (none_there (λ x. zone_of g x.start == zone) (all_extents es) none)))
not_that_one g es zone n false none held is = refl

-- zones that hold extents are none of those that are reset
pub others_stay : (s t : FsState) (zone : ℕ) → IsResetting s t → IsNextReset t zone → (n : ℕ) → is_free s.geometry (recorded s) n ≡ false → (n == zone) ≡ false
others_stay s t zone way next n held =
    let kept = (resets_keep_files s t way).0 in
    not_that_one t.geometry (recorded t) zone n (n == zone) next.avoided
    (ap (λ g. is_free g (recorded t) n) kept.geometry ∙ ap (λ (rows : List TableRow). is_free s.geometry (map (λ r. r.entry) rows) n) kept.rows ∙ held) refl

-- the table of a state that stands has nothing in the next zone
nothing_there : (i : Image) (s : FsState) (zone : ℕ) → i.geometry ≡ s.geometry → IsNextReset s zone → Stands i s → HasNothingIn zone i.geometry (recorded s)
nothing_there i s zone shape next stands =
    subst (λ g. HasNothingIn zone g (recorded s)) (sym shape) (dead_zone_has_nothing s zone stands.shown stands.points next.dead)

-- a device's image from which that zone is emptied
pub emptied_is_valid : (g : Geometry) (infos : List ZoneInfo) (i : Image) (s : FsState) (zone : ℕ) → g ≡ s.geometry → IsPossible g infos → IsImage g infos i → IsNextReset s zone → IsValidImage (emptied i zone)
emptied_is_valid g infos i s zone same possible image next = emptied_valid g infos i zone possible image (subst (λ h. zone < h.zones) (sym same) next.is_zone)

-- a crash within the reset mounts to the same tree
pub moment_mounts : (i j : Image) (s : FsState) (zone : ℕ) → i.geometry ≡ s.geometry → IsValidImage (emptied i zone) → IsNextReset s zone → PassedByReset i zone j → Stands i s → MountsTheSame i j
moment_mounts i j s zone shape valid next passed stands =
    reset_mounts_the_same i j s zone stands (nothing_there i s zone shape next stands) valid next.behind_metadata passed

-- after the reset the state follows
pub emptied_follows : (i : Image) (s : FsState) (zone : ℕ) → i.geometry ≡ s.geometry → IsValidImage (emptied i zone) → IsNextReset s zone → Stands i s
    → Follows i (emptied i zone) s (after_reset zone s)
emptied_follows i s zone shape valid next stands =
    reset_follows i i (emptied i zone) s s (after_reset zone s) zone (follows_itself i s stands) (nothing_there i s zone shape next stands)
    (record { rows = refl; log = refl }) (rests_without_zone i zone valid next.behind_metadata) (emptied_keeps_blocks i zone)

-- one state after another
pub follows_then : (i j k : Image) (s t u : FsState) → Follows i j s t → Follows j k t u → Follows i k s u
follows_then i j k s t u first second = record {
  stands = second.stands;
  rows = second.rows ∙ first.rows;
  log = second.log ∙ first.log;
  tree = second.tree ∙ first.tree;
  mounts = λ w h. second.mounts w (first.mounts w h);
}

-- Resets of data zones in which the table has nothing.
use Rattle.std.specs.Prelude.{◌≡◌, ◌≢◌, ℕ, Bool, true, false, List, [], ◌∷◌, ◌++◌, All, Ok, filter, flat_map, map, ◌==◌, if◌then◌else◌, refl}
use Rattle.std.proofs.Common.{◌∙◌, ap, append-nil, sym, subst, ⊎_elim}
use Rattle.std.proofs.lemmas.Bool.{eqb-false, ne_eqb}
use Rattle.std.proofs.lemmas.List.Elements.{All-head, All-tail}
use Rattle.std.specs.List.{AllByRecursion}
use Rattle.zone_image.specs.declared.Geometry.{Geometry}
use Rattle.zone_image.specs.Image.{Image, IsCrash, no_zone, zone_of}
use Rattle.zone_image.specs.Changes.{emptied}
use Rattle.record_model.specs.FieldDecoding.{◌>>=◌}
use Rattle.record_model.specs.declared.types.Extent.{Extent}
use Rattle.record_model.specs.declared.types.FileEntry.{FileEntry}
use Rattle.log_model.specs.FileTable.{Table}
use Rattle.log_model.specs.LogSelection.{LogAt, chosen_of, selected_log}
use Rattle.log_model.specs.Mounted.{MountsTo, all_extents}
use Rattle.log_model.proofs.CrashLaws.{changed_elsewhere}
use Rattle.fs_model.specs.FsState.{FsState, mounted_row, recorded, working, working_of}
use Rattle.fs_model.specs.CrashClauses.{shown_tree}
use Rattle.crash_cover.specs.AtRest.{IsAtRest}
use Rattle.crash_cover.specs.SameData.{RecoversElsewhere}
use Rattle.crash_cover.proofs.StepLaws.{reset_keeps_rest}
use Rattle.change_records.specs.Recorded.{entries}
use Rattle.change_cover.specs.Rests.{AreShown, Becomes, HaveNoPoints, Stands}
use Rattle.change_cover.specs.Resets.{DeadZoneHasNothing, NoExtentIsNothing, ResetStands, ResetLeaves, ResetMountsTheSame}
use Rattle.change_cover.specs.SameTrees.{KeepsBlocks}
use Rattle.change_cover.proofs.LeftTrees.{one_tree, recovered_is_left}
use Rattle.change_cover.proofs.SameTreeLaws.{kept_blocks_show_the_same}
use Rattle.change_cover.proofs.ShownTrees.{rest_mounts_shown, crash_mounts_shown}

-- a file without a recovery point has it nowhere
points_nowhere : (changed : ℕ → Bool) (g : Geometry) (fs : Table) → HaveNoPoints fs → AllByRecursion (RecoversElsewhere changed g) fs
points_nowhere changed g [] unset = tt
points_nowhere changed g (f ∷ fs) unset = ((λ set. absurd (set unset.0)), points_nowhere changed g fs unset.1)

pub no_extent_is_nothing : NoExtentIsNothing
no_extent_is_nothing g zone es points none = record { extents = elsewhere (all_extents es) none; points = points_nowhere (λ n. n == zone) g es points }
  where
    elsewhere : (xs : List Extent) → All (λ x. zone_of g x.start ≢ zone) xs → AllByRecursion (λ x. (zone_of g x.start == zone) ≡ false) xs
    elsewhere [] all = tt
    elsewhere (x ∷ xs) all =
        (ne_eqb (zone_of g x.start) zone (All-head (λ y. zone_of g y.start ≢ zone) x xs all), elsewhere xs (All-tail (λ y. zone_of g y.start ≢ zone) x xs all))

-- the extents of rows that are shown
extents_shown : (es : Table) → flat_map (λ (e : FileEntry). e.extents) (working_of (map mounted_row es)) ≡ all_extents es
extents_shown [] = refl
extents_shown (e ∷ es) =
    ap (λ xs. xs ++ flat_map (λ (f : FileEntry). f.extents) (working_of (map mounted_row es))) (append-nil e.extents) ∙ ap (λ xs. e.extents ++ xs) (extents_shown es)

-- a test that the first of some extents passes, or not
none_choice : (b : Bool) (x : Extent) (xs : List Extent) → (if b then x ∷ xs else xs) ≡ [] → (b ≡ false) × (xs ≡ [])
none_choice true x xs h = absurd cc
none_choice false x xs h = (refl, h)

-- where none passes a test, each fails it
none_passes : (p : Extent → Bool) (xs : List Extent) → filter p xs ≡ [] → AllByRecursion (λ x. p x ≡ false) xs
none_passes p [] h = tt
none_passes p (x ∷ xs) h = let parts = none_choice (p x) x (filter p xs) h in (parts.0, none_passes p xs parts.1)

pub dead_zone_has_nothing : DeadZoneHasNothing
dead_zone_has_nothing s zone shown points dead =
    let same : flat_map (λ (e : FileEntry). e.extents) (working s) ≡ all_extents (recorded s) =
    ap (λ rows. flat_map (λ (e : FileEntry). e.extents) (working_of rows)) shown ∙ extents_shown (recorded s) in
    record {
      extents = none_passes (λ x. zone_of s.geometry x.start == zone) (all_extents (recorded s)) (subst (λ xs. filter (λ x. zone_of s.geometry x.start == zone) xs ≡ []) same dead);
      points = points_nowhere (λ n. n == zone) s.geometry (recorded s) points;
    }

-- the same log counts on images that have one table of it at rest
same_log : (i j : Image) (log : LogAt) (greatest : ℕ) (es : Table) → IsAtRest i log greatest es → IsAtRest j log greatest es → selected_log j ≡ selected_log i
same_log i j log greatest es here there =
    ap (λ r. r >>= (λ l. Ok (chosen_of l))) there.table.selected ∙ sym (ap (λ r. r >>= (λ l. Ok (chosen_of l))) here.table.selected)

-- with the same table at rest the state stands
still_stands : (i j : Image) (s next : FsState) (stands : Stands i s) → Becomes s.log s.rows next → IsAtRest j stands.rests.log stands.rests.greatest (recorded s) → Stands j next
still_stands i j s next stands becomes there =
    let rests = stands.rests in
    record {
      rests = record {
        log = rests.log;
        greatest = rests.greatest;
        rest = subst (λ rows. IsAtRest j rests.log rests.greatest (entries rows)) (sym becomes.rows) there;
        selected = same_log i j rests.log rests.greatest (recorded s) rests.rest there ∙ (rests.selected ∙ ap (λ l. Ok l) (sym becomes.log));
      };
      shown = subst AreShown (sym becomes.rows) stands.shown;
      points = subst (λ rows. HaveNoPoints (entries rows)) (sym becomes.rows) stands.points;
    }

pub reset_stands : ResetStands
reset_stands i j s next zone stands away becomes at =
    still_stands i j s next stands becomes (at stands.rests.log stands.rests.greatest (recorded s) stands.rests.rest away)

pub reset_leaves : ResetLeaves
reset_leaves i j s zone stands away left =
    recovered_is_left i j s stands.rests stands.shown (left stands.rests.log stands.rests.greatest (recorded s) stands.rests.rest away)

-- the other zones keep their blocks
pub emptied_keeps_blocks : (i : Image) (zone : ℕ) → KeepsBlocks (λ n. n == zone) i (emptied i zone)
emptied_keeps_blocks i zone = record {
  geometry = refl;
  blocks = λ n data_zone other. ap (λ z. z.blocks) (changed_elsewhere zone n (λ _. no_zone) i.zones (eqb-false n zone other));
}

pub reset_mounts_the_same : ResetMountsTheSame
reset_mounts_the_same i j s zone stands away valid data_zone passed t mounts =
    let k : Image = emptied i zone in
    let rest = reset_keeps_rest i zone stands.rests.log stands.rests.greatest (recorded s) stands.rests.rest valid data_zone away in
    let there : Stands k s = still_stands i k s s stands (record { rows = refl; log = refl }) rest in
    let same : shown_tree k s ≡ shown_tree i s = kept_blocks_show_the_same (λ n. n == zone) i k s s stands there refl (emptied_keeps_blocks i zone) away in
    subst (MountsTo j) (one_tree i (shown_tree i s) t (rest_mounts_shown i s stands) mounts)
    (⊎_elim
    (λ (before : IsCrash i j). crash_mounts_shown i j s stands before)
    (λ (after : IsCrash k j). subst (MountsTo j) same (crash_mounts_shown k j s there after))
    passed)

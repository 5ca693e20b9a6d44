-- Calls that only read a device, one after another.
use Rattle.std.proofs.Common.{◌≡◌, ℕ, List, refl, sym, ◌∙◌, subst}
use Rattle.zone_image.specs.declared.Geometry.{Geometry}
use Rattle.zone_image.specs.declared.ZoneInfo.{ZoneInfo}
use Rattle.zone_image.specs.Image.{Image, IsCrash}
use Rattle.zone_image.specs.Moments.{KeepsMoments}
use Rattle.zone_image.specs.Reads.{OnlyReads}
use Rattle.zone_image.proofs.MomentLaws.{stays, goes_on}

module _ {D : Type 0} {known : D → Type 0} {geometry : D → Geometry} {infos : D → List ZoneInfo} {tells : Type 0} {image : D → Image} {tick : D → ℕ} {since : D → ℕ → Image → Type 0} {failed_changes : D → ℕ} (laws : KeepsMoments tells image tick since) where
  -- where no call is made nothing is changed
  pub reads_nothing : (d : D) → known d → OnlyReads known geometry infos tells image tick since failed_changes d d
  reads_nothing d is_known = record {
    still_known = is_known;
    same_geometry = refl;
    same_infos = refl;
    same_image = λ told. refl;
    passes = stays laws d;
    same_changes = refl;
  }

  -- one call that only reads after another
  pub reads_on : {a b c : D} → OnlyReads known geometry infos tells image tick since failed_changes a b → OnlyReads known geometry infos tells image tick since failed_changes b c
      → OnlyReads known geometry infos tells image tick since failed_changes a c
  reads_on {a} {b} {c} first second = record {
    still_known = second.still_known;
    same_geometry = second.same_geometry ∙ first.same_geometry;
    same_infos = second.same_infos ∙ first.same_infos;
    same_image = λ told. second.same_image told ∙ first.same_image told;
    passes = goes_on laws (IsCrash (image a)) first.passes second.passes (λ j told crash. crash) (λ j told crash. subst (λ i. IsCrash i j) (first.same_image told) crash);
    same_changes = second.same_changes ∙ first.same_changes;
  }

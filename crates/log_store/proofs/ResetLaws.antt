-- A data zone that is reset while the image is at rest.
use Rattle.std.specs.Prelude.{ℕ, ◌<◌, ◌≤◌, List, ◌==◌, refl}
use Rattle.std.proofs.Common.{ap, sym, subst, ⊎_elim, arith}
use Rattle.std.proofs.lemmas.Bool.{eqb-false}
use Rattle.zone_image.specs.declared.Geometry.{Geometry}
use Rattle.zone_image.specs.declared.ZoneInfo.{ZoneInfo}
use Rattle.zone_image.specs.Image.{Image, no_zone}
use Rattle.zone_image.specs.Changes.{emptied}
use Rattle.zone_image.specs.Infos.{IsImage, IsPossible, IsValidImage}
use Rattle.zone_image.specs.Moments.{PassedByReset}
use Rattle.zone_image.proofs.InfoLaws.{valid_emptied}
use Rattle.log_model.proofs.CrashLaws.{changed_elsewhere}
use Rattle.crash_cover.specs.SameData.{HaveSameData}
use Rattle.crash_cover.proofs.RecoveryLaws.{crash_recovers}
use Rattle.crash_cover.proofs.StepLaws.{reset_keeps_rest}
use Rattle.zoned_device.proofs.DeviceLaws.{valid_image}
use Rattle.log_store.specs.Resetting.{LeftByReset, RestsWithoutZone}
use Rattle.log_store.proofs.DataZones.{recovers_before}

-- a device's image with an emptied zone is one that a device may have
pub emptied_valid : (g : Geometry) (infos : List ZoneInfo) (i : Image) (zone : ℕ) → IsPossible g infos → IsImage g infos i → zone < g.zones → IsValidImage (emptied i zone)
emptied_valid g infos i zone possible image within = valid_emptied i zone (valid_image g infos i possible image) (subst (λ s. zone < s.zones) (sym image.shape) within)

-- the image is at rest still
pub rests_without_zone : (i : Image) (zone : ℕ) → IsValidImage (emptied i zone) → 3 ≤ zone → RestsWithoutZone zone i (emptied i zone)
rests_without_zone i zone valid data_zone log greatest es rest away = reset_keeps_rest i zone log greatest es rest valid data_zone away

-- the other zones are the same
others_same : (i : Image) (zone : ℕ) → HaveSameData (λ n. n == zone) i (emptied i zone)
others_same i zone = record {
  geometry = refl;
  blocks = λ n data_zone other. ap (λ z. z.blocks) (changed_elsewhere zone n (λ _. no_zone) i.zones (eqb-false n zone other));
  kept = λ n data_zone other. let same = ap (λ z. z.kept) (changed_elsewhere zone n (λ _. no_zone) i.zones (eqb-false n zone other)) in omega (arith, same);
}

-- a crash within the reset leaves the table
pub left_by_reset : (i : Image) (zone : ℕ) → IsValidImage (emptied i zone) → 3 ≤ zone → (j : Image) → PassedByReset i zone j → LeftByReset zone i j
left_by_reset i zone valid data_zone j passed log greatest es rest away =
    ⊎_elim
    (λ before. crash_recovers i j log greatest es rest before)
    (λ after.
    recovers_before (λ n. n == zone) i (emptied i zone) j es (others_same i zone) away rest.valid rest.pinned
    (crash_recovers (emptied i zone) j log greatest es (reset_keeps_rest i zone log greatest es rest valid data_zone away) after))
    passed

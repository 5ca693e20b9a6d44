-- Images of which nothing is pending, with the blocks of the image from which they come.
use Rattle.std.specs.Prelude.{◌≡◌, ℕ, zero, suc, false, List, [], ◌∷◌, length, Option, Some, None, refl}
use Rattle.std.proofs.Common.{◌∙◌, ap, sym, subst, ⊎_elim, inr, arith}
use Rattle.zone_image.specs.Image.{Zone, Image, IsCrash, zone_at, zone_in}
use Rattle.zone_image.specs.Changes.{change_at, zone_finished, finished, synced}
use Rattle.log_model.specs.CrashLaws.{IsDurable}
use Rattle.log_model.specs.MountLaws.{HaveSameBlocks}
use Rattle.log_model.proofs.CrashLaws.{crashed_zone, durable_zone_stays}
use Rattle.crash_cover.specs.SameData.{HaveSameData}
use Rattle.log_roll.proofs.RollStages.{synced_zone}
use Rattle.log_store.specs.Settling.{LeftBySeal, PassedBySeal, sealed_image}

-- the same blocks, all of them durable
pub record IsQuiet (i s : Image) : Type 0 where
  pub same : HaveSameBlocks i s
  pub durable : (n : ℕ) → IsDurable s n

-- after a sync
pub quiet_synced : (i : Image) → IsQuiet i (synced i)
quiet_synced i = record {
  same = record { geometry = refl; blocks = λ n. sym (ap (λ (z : Zone). z.blocks) (synced_zone i n)) };
  durable = λ n. omega (arith, ap (λ (z : Zone). length z.blocks) (synced_zone i n), ap (λ (z : Zone). z.kept) (synced_zone i n));
}

-- a finished zone has the blocks that it had, and as many of them are durable
pub finished_zone : (n m : ℕ) (zs : List Zone) → ((zone_in (change_at n zone_finished zs) m).blocks ≡ (zone_in zs m).blocks) × ((zone_in (change_at n zone_finished zs) m).kept ≡ (zone_in zs m).kept)
finished_zone n m [] = (refl, refl)
finished_zone zero zero (z ∷ zs) = (refl, refl)
finished_zone zero (suc m) (z ∷ zs) = (refl, refl)
finished_zone (suc n) zero (z ∷ zs) = (refl, refl)
finished_zone (suc n) (suc m) (z ∷ zs) = finished_zone n m zs

-- after a finish, too
quiet_finished : (i s : Image) (zone : ℕ) → IsQuiet i s → IsQuiet i (finished s zone)
quiet_finished i s zone quiet = record {
  same = record { geometry = quiet.same.geometry; blocks = λ n. quiet.same.blocks n ∙ sym (finished_zone zone n s.zones).0 };
  durable = λ n.
      let same = finished_zone zone n s.zones in
      let size : length (zone_at (finished s zone) n).blocks ≡ length (zone_at s n).blocks = ap (λ (bs : List (List ℕ)). length bs) same.0 in
      omega (arith, size, same.1, quiet.durable n);
}

-- after a sync, and a finish if there is one
pub quiet_sealed : (i : Image) (finish : Option ℕ) → IsQuiet i (sealed_image (synced i) finish)
quiet_sealed i None = quiet_synced i
quiet_sealed i (Some zone) = quiet_finished i (synced i) zone (quiet_synced i)

-- a crash leaves all of it
pub quiet_crash : (i s k : Image) → IsQuiet i s → IsCrash s k → HaveSameBlocks i k
quiet_crash i s k quiet crash = record {
  geometry = quiet.same.geometry ∙ sym crash.geometry;
  blocks = λ n. quiet.same.blocks n ∙ sym (durable_zone_stays s k n crash (quiet.durable n));
}

-- so a crash of it has the same data
pub quiet_data : (i s k : Image) → IsQuiet i s → IsCrash s k → HaveSameData (λ _. false) s k
quiet_data i s k quiet crash = record {
  geometry = crash.geometry;
  blocks = λ n data_zone other. durable_zone_stays s k n crash (quiet.durable n);
  kept = λ n data_zone other. let zone = crashed_zone s k n crash in omega (arith, zone.enough, zone.durable);
}

-- a crash within the finish leaves all of it
pub seal_leaves : (i s j : Image) (finish : Option ℕ) → s ≡ synced i → PassedBySeal finish s j → LeftBySeal i j
seal_leaves i s j None is passed = inr (quiet_crash i (synced i) j (quiet_synced i) (subst (λ k. IsCrash k j) is passed))
seal_leaves i s j (Some zone) is passed =
    ⊎_elim (λ before. inr (quiet_crash i (synced i) j (quiet_synced i) (subst (λ k. IsCrash k j) is before)))
    (λ after. inr (quiet_crash i (finished (synced i) zone) j (quiet_finished i (synced i) zone (quiet_synced i)) (subst (λ k. IsCrash (finished k zone) j) is after)))
    passed

-- The data zones over calls that seal one of them.
use Rattle.std.proofs.Common.{◌≡◌, ℕ, zero, suc, ◌⊎◌, ⊎_elim, Bool, ◌==◌, List, [], ◌∷◌, Result, Ok, Err, refl, ◌∙◌, ap}
use Rattle.std.specs.Prelude.{OnOk, OnErr}
use Rattle.std.proofs.lemmas.Bool.{eqb-false}
use Rattle.zone_image.specs.declared.ZoneInfo.{ZoneInfo}
use Rattle.zone_image.specs.Image.{Image, zone_at}
use Rattle.zone_image.specs.Changes.{change_at, finished}
use Rattle.zone_image.specs.Infos.{Shows, info_at, info_finished, infos_finished, no_info}
use Rattle.zoned_device.specs.DataKept.{KeepsData}
use Rattle.log_roll.proofs.ZoneChanges.{other_item}
use Rattle.zoned_device.specs.OtherData.{KeepsBlocks}
use Rattle.log_store.proofs.OtherData.{info_of_data}
use Rattle.log_store.proofs.QuietImages.{finished_zone}

-- a finish changes no number of blocks
finished_written : (zone n : ℕ) (infos : List ZoneInfo) → (info_at (change_at zone info_finished infos) n).written ≡ (info_at infos n).written
finished_written zone n [] = refl
finished_written zero zero (x ∷ xs) = refl
finished_written zero (suc n) (x ∷ xs) = refl
finished_written (suc zone) zero (x ∷ xs) = refl
finished_written (suc zone) (suc n) (x ∷ xs) = finished_written zone n xs

module _ {D : Type 0} {infos : D → List ZoneInfo} {tells : Type 0} {image : D → Image} where
  -- where nothing is done
  pub same_blocks : (sealed : ℕ → Bool) (a : D) → KeepsBlocks infos tells image sealed a a
  same_blocks sealed a = record { written = λ n data_zone. refl; seals = λ n data_zone other. refl; blocks = λ told n data_zone. refl }

  -- where all of the data zones is kept
  pub blocks_of_all : (sealed : ℕ → Bool) {a b : D} → KeepsData infos tells image a b → KeepsBlocks infos tells image sealed a b
  blocks_of_all sealed {a} {b} kept = record {
    written = λ n data_zone. ap (λ (x : ZoneInfo). x.written) (info_of_data (infos b) (infos a) n kept.numbers data_zone);
    seals = λ n data_zone other. ap (λ (x : ZoneInfo). x.sealed) (info_of_data (infos b) (infos a) n kept.numbers data_zone);
    blocks = λ told n data_zone. kept.blocks told n data_zone;
  }

  -- what two parts of the work keep
  pub blocks_of_both : {sealed : ℕ → Bool} {a b c : D} → KeepsBlocks infos tells image sealed a b → KeepsBlocks infos tells image sealed b c → KeepsBlocks infos tells image sealed a c
  blocks_of_both first second = record {
    written = λ n data_zone. second.written n data_zone ∙ first.written n data_zone;
    seals = λ n data_zone other. second.seals n data_zone other ∙ first.seals n data_zone other;
    blocks = λ told n data_zone. second.blocks told n data_zone ∙ first.blocks told n data_zone;
  }

  -- a call that changes nothing
  shown_blocks : (a b : D) (zone : ℕ) → Shows tells (infos a) (image a) (infos b) (image b) → KeepsBlocks infos tells image (λ n. n == zone) a b
  shown_blocks a b zone same = record {
    written = λ n data_zone. ap (λ is. (info_at is n).written) same.same_infos;
    seals = λ n data_zone other. ap (λ is. (info_at is n).sealed) same.same_infos;
    blocks = λ told n data_zone. ap (λ i. (zone_at i n).blocks) (same.same_image told);
  }

  -- a zone that is finished
  finished_blocks : (a b : D) (zone : ℕ) → infos b ≡ infos_finished (infos a) zone → (tells → image b ≡ finished (image a) zone) → KeepsBlocks infos tells image (λ n. n == zone) a b
  finished_blocks a b zone numbers made = record {
    written = λ n data_zone. ap (λ is. (info_at is n).written) numbers ∙ finished_written zone n (infos a);
    seals = λ n data_zone other.
        ap (λ is. (info_at is n).sealed) numbers ∙ ap (λ (x : ZoneInfo). x.sealed) (other_item zone n info_finished (infos a) no_info (eqb-false n zone other));
    blocks = λ told n data_zone. ap (λ i. (zone_at i n).blocks) (made told) ∙ (finished_zone zone n (image a).zones).0;
  }

  -- a finish
  pub seal_blocks : {E : Type 0} (a b : D) (zone : ℕ) (r : Result (Unit {0}) E) → OnOk r (infos b ≡ infos_finished (infos a) zone) → OnOk r (tells → image b ≡ finished (image a) zone)
      → OnErr r (Shows tells (infos a) (image a) (infos b) (image b) ⊎ Shows tells (infos_finished (infos a) zone) (finished (image a) zone) (infos b) (image b))
      → KeepsBlocks infos tells image (λ n. n == zone) a b
  seal_blocks a b zone (Ok x) numbers made failed = finished_blocks a b zone numbers made
  seal_blocks a b zone (Err e) numbers made failed =
      ⊎_elim (λ same. shown_blocks a b zone same) (λ done. finished_blocks a b zone done.same_infos done.same_image) failed

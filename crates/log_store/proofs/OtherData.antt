-- The data zones in which nothing changes, over the calls of a device.
use Rattle.std.proofs.Common.{◌≡◌, ℕ, zero, suc, ◌≤◌, ◌⊎◌, ⊎_elim, Bool, false, ◌==◌, List, [], ◌∷◌, drop, Result, Ok, Err, refl, sym, ◌∙◌, ap, arith}
use Rattle.std.specs.Prelude.{OnOk, OnErr}
use Rattle.std.proofs.lemmas.Bool.{eqb-false}
use Rattle.zone_image.specs.declared.ZoneInfo.{ZoneInfo}
use Rattle.zone_image.specs.Image.{Image, no_zone, zone_at}
use Rattle.zone_image.specs.Changes.{emptied}
use Rattle.zone_image.specs.Infos.{Shows, info_at, infos_emptied, no_info}
use Rattle.zoned_device.specs.DataKept.{KeepsData}
use Rattle.log_roll.proofs.ZoneChanges.{other_item, other_zone}
use Rattle.zoned_device.specs.OtherData.{KeepsOtherData}

-- the number and the seal of a zone behind the first three
info_behind : (infos : List ZoneInfo) (n : ℕ) → info_at infos (suc (suc (suc n))) ≡ info_at (drop 3 infos) n
info_behind [] n = refl
info_behind (a ∷ []) n = refl
info_behind (a ∷ b ∷ []) n = refl
info_behind (a ∷ b ∷ c ∷ rest) n = refl

-- lists with the same data zones have the same number and seal of each
pub info_of_data : (new old : List ZoneInfo) (n : ℕ) → drop 3 new ≡ drop 3 old → 3 ≤ n → info_at new n ≡ info_at old n
info_of_data new old zero same data_zone = absurd (omega arith)
info_of_data new old (suc zero) same data_zone = absurd (omega arith)
info_of_data new old (suc (suc zero)) same data_zone = absurd (omega arith)
info_of_data new old (suc (suc (suc n))) same data_zone = info_behind new n ∙ (ap (λ is. info_at is n) same ∙ sym (info_behind old n))

module _ {D : Type 0} {infos : D → List ZoneInfo} {tells : Type 0} {image : D → Image} where
  -- where all data zones are kept the others are
  pub others_of_all : (changed : ℕ → Bool) {a b : D} → KeepsData infos tells image a b → KeepsOtherData infos tells image changed a b
  others_of_all changed {a} {b} kept = record {
    numbers = λ n data_zone other. info_of_data (infos b) (infos a) n kept.numbers data_zone;
    blocks = λ told n data_zone other. kept.blocks told n data_zone;
  }

  -- what two parts of the work keep
  pub others_of_both : {changed : ℕ → Bool} {a b c : D} → KeepsOtherData infos tells image changed a b → KeepsOtherData infos tells image changed b c → KeepsOtherData infos tells image changed a c
  others_of_both first second = record {
    numbers = λ n data_zone other. second.numbers n data_zone other ∙ first.numbers n data_zone other;
    blocks = λ told n data_zone other. second.blocks told n data_zone other ∙ first.blocks told n data_zone other;
  }

  -- where more may have changed
  pub others_of_fewer : {less : ℕ → Bool} (more : ℕ → Bool) {a b : D} → ((n : ℕ) → more n ≡ false → less n ≡ false) → KeepsOtherData infos tells image less a b
      → KeepsOtherData infos tells image more a b
  others_of_fewer more fewer kept = record {
    numbers = λ n data_zone other. kept.numbers n data_zone (fewer n other);
    blocks = λ told n data_zone other. kept.blocks told n data_zone (fewer n other);
  }

  -- where nothing is done
  same_others : (a b : D) (zone : ℕ) → Shows tells (infos a) (image a) (infos b) (image b) → KeepsOtherData infos tells image (λ n. n == zone) a b
  same_others a b zone same = record {
    numbers = λ n data_zone other. ap (λ is. info_at is n) same.same_infos;
    blocks = λ told n data_zone other. ap (λ i. (zone_at i n).blocks) (same.same_image told);
  }

  -- where a zone is emptied
  emptied_others : (a b : D) (zone : ℕ) → infos b ≡ infos_emptied (infos a) zone → (tells → image b ≡ emptied (image a) zone) → KeepsOtherData infos tells image (λ n. n == zone) a b
  emptied_others a b zone numbers made = record {
    numbers = λ n data_zone other. ap (λ is. info_at is n) numbers ∙ other_item zone n (λ _. no_info) (infos a) no_info (eqb-false n zone other);
    blocks = λ told n data_zone other. ap (λ i. (zone_at i n).blocks) (made told) ∙ ap (λ z. z.blocks) (other_zone zone n (λ _. no_zone) (image a) (eqb-false n zone other));
  }

  -- a reset
  pub reset_others : {E : Type 0} (a b : D) (zone : ℕ) (r : Result (Unit {0}) E) → OnOk r (infos b ≡ infos_emptied (infos a) zone) → OnOk r (tells → image b ≡ emptied (image a) zone)
      → OnErr r (Shows tells (infos a) (image a) (infos b) (image b) ⊎ Shows tells (infos_emptied (infos a) zone) (emptied (image a) zone) (infos b) (image b))
      → KeepsOtherData infos tells image (λ n. n == zone) a b
  reset_others a b zone (Ok x) numbers made failed = emptied_others a b zone numbers made
  reset_others a b zone (Err e) numbers made failed =
      ⊎_elim (λ same. same_others a b zone same) (λ done. emptied_others a b zone done.same_infos done.same_image) failed

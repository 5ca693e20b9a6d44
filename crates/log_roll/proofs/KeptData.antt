-- The data zones over the calls of a device that write metadata zones.
use Rattle.std.proofs.Common.{◌≡◌, ℕ, ◌<◌, List, drop, ⊎_elim, Result, Ok, Err, refl, ◌∙◌, ap, arith}
use Rattle.std.specs.Prelude.{◌⊎◌, zero, suc, [], ◌∷◌, OnOk, OnErr, map, take}
use Rattle.zone_image.specs.declared.Geometry.{Geometry}
use Rattle.zone_image.specs.declared.ZoneInfo.{ZoneInfo}
use Rattle.zone_image.specs.Image.{Zone, Image, zone_at, zone_in}
use Rattle.zone_image.specs.Changes.{change_at, with_zone, zone_appended, zone_synced, synced}
use Rattle.zone_image.specs.Infos.{Shows, ShowsSome, info_appended}
use Rattle.zoned_device.specs.DataKept.{KeepsData}
use Rattle.log_roll.proofs.Rolled.{drop_changed}
use Rattle.log_roll.proofs.ZoneChanges.{other_zone}

-- a sync changes no block
synced_blocks : (zs : List Zone) (n : ℕ) → (zone_in (map zone_synced zs) n).blocks ≡ (zone_in zs n).blocks
synced_blocks [] n = refl
synced_blocks (z ∷ zs) zero = refl
synced_blocks (z ∷ zs) (suc n) = synced_blocks zs n

module _ {D : Type 0} {infos : D → List ZoneInfo} {tells : Type 0} {image : D → Image} where
  -- where nothing is done all is kept
  pub kept_same : (a : D) → KeepsData infos tells image a a
  kept_same a = record { numbers = refl; blocks = λ told n data_zone. refl }

  -- what two parts of the work keep
  pub both_kept : {a b c : D} → KeepsData infos tells image a b → KeepsData infos tells image b c → KeepsData infos tells image a c
  both_kept first second = record {
    numbers = second.numbers ∙ first.numbers;
    blocks = λ told n data_zone. second.blocks told n data_zone ∙ first.blocks told n data_zone;
  }

  -- a call that only reads
  pub kept_read : (a b : D) → infos b ≡ infos a → (tells → image b ≡ image a) → KeepsData infos tells image a b
  kept_read a b numbers same = record {
    numbers = ap (λ is. drop 3 is) numbers;
    blocks = λ told n data_zone. ap (λ i. (zone_at i n).blocks) (same told);
  }

  -- a change of a metadata zone
  kept_change : (a b : D) (zone : ℕ) (f : ZoneInfo → ZoneInfo) (h : Zone → Zone) → zone < 3 → infos b ≡ change_at zone f (infos a) → (tells → image b ≡ with_zone (image a) zone h)
      → KeepsData infos tells image a b
  kept_change a b zone f h below numbers made = record {
    numbers = ap (λ is. drop 3 is) numbers ∙ drop_changed 3 zone f (infos a) below;
    blocks =
        λ told n data_zone.
        ap (λ i. (zone_at i n).blocks) (made told) ∙ ap (λ z. z.blocks) (other_zone zone n h (image a) (λ same. absurd (omega (arith, same))));
  }

  -- a finish or a reset of a metadata zone
  pub kept_whole : {E : Type 0} (a b : D) (zone : ℕ) (f : ZoneInfo → ZoneInfo) (h : Zone → Zone) (r : Result (Unit {0}) E) → zone < 3
      → OnOk r (infos b ≡ change_at zone f (infos a)) → OnOk r (tells → image b ≡ with_zone (image a) zone h)
      → OnErr r (Shows tells (infos a) (image a) (infos b) (image b) ⊎ Shows tells (change_at zone f (infos a)) (with_zone (image a) zone h) (infos b) (image b))
      → KeepsData infos tells image a b
  kept_whole a b zone f h (Ok x) below numbers made failed = kept_change a b zone f h below numbers made
  kept_whole a b zone f h (Err e) below numbers made failed =
      ⊎_elim (λ same. kept_read a b same.same_infos same.same_image) (λ done. kept_change a b zone f h below done.same_infos done.same_image) failed

  -- an append to a metadata zone that was done whole
  pub kept_appended : (g : Geometry) (a b : D) (zone count : ℕ) (added : List (List ℕ)) → zone < 3 → infos b ≡ change_at zone (info_appended g.capacity count) (infos a)
      → (tells → image b ≡ with_zone (image a) zone (zone_appended (image a).geometry.capacity added)) → KeepsData infos tells image a b
  kept_appended g a b zone count added below numbers made = kept_change a b zone (info_appended g.capacity count) (zone_appended (image a).geometry.capacity added) below numbers made

  -- one that failed
  pub kept_failed : (g : Geometry) (a b : D) (zone : ℕ) (added : List (List ℕ)) → zone < 3 → ShowsSome g tells zone added (infos a) (image a) (infos b) (image b) → KeepsData infos tells image a b
  kept_failed g a b zone added below some =
      kept_change a b zone (info_appended g.capacity some.count) (zone_appended (image a).geometry.capacity (take some.count added)) below some.shows.same_infos some.shows.same_image

  -- a sync
  pub kept_synced : {E : Type 0} (a b : D) (r : Result (Unit {0}) E) → infos b ≡ infos a → OnOk r (tells → image b ≡ synced (image a)) → OnErr r (tells → image b ≡ image a)
      → KeepsData infos tells image a b
  kept_synced a b (Ok x) numbers done failed = record {
    numbers = ap (λ is. drop 3 is) numbers;
    blocks = λ told n data_zone. ap (λ i. (zone_at i n).blocks) (done told) ∙ synced_blocks (image a).zones n;
  }
  kept_synced a b (Err e) numbers done failed = kept_read a b numbers failed

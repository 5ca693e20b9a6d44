-- The crash that loses the most.
use Rattle.std.specs.Prelude.{◌≡◌, ℕ, zero, suc, ◌<◌, ◌≤◌, List, [], ◌∷◌, ◌++◌, length, take, drop, refl}
use Rattle.std.proofs.Common.{◌∙◌, ap, sym, subst, arith}
use Rattle.std.proofs.lemmas.List.{take-append-drop, take-take}
use mathlib.Core.List.{IsPrefix}
use Rattle.zone_image.specs.Image.{Zone, ZoneCrash, zone_in, zone_at, zone_of}
use Rattle.zone_image.specs.Changes.{zones_crashed, blocks_left}
use Rattle.log_model.specs.MountLaws.{KeepsFronts}
use Rattle.log_model.proofs.CrashLaws.{crashed_zone, crash_keeps_fronts}
use Rattle.log_model.proofs.FrameLaws.{frames_stay_in_order}
use Rattle.least_crash.specs.Least.{least_crash, LeastIsWithin, CrashFramesBetween}

-- the blocks that it leaves of a zone
pub least_zone : (zs : List Zone) (n : ℕ) → (zone_in (zones_crashed zs []) n).blocks ≡ take (blocks_left (zone_in zs n) 0) (zone_in zs n).blocks
least_zone [] n = refl
least_zone (z ∷ zs) zero = refl
least_zone (z ∷ zs) (suc n) = least_zone zs n

-- no more than every crash leaves
least_count : (z y : Zone) → ZoneCrash z y → blocks_left z 0 ≤ length y.blocks
least_count z y it = omega (arith, it.enough)

-- the first of what a crash leaves
least_front : (z y : Zone) → ZoneCrash z y → IsPrefix (take (blocks_left z 0) z.blocks) y.blocks
least_front z y it =
    let n = blocks_left z 0 in
    let less : blocks_left z 0 ≤ length y.blocks = least_count z y it in
    let same : take n z.blocks ≡ take n y.blocks = sym (take-take n (length y.blocks) z.blocks less) ∙ ap (take n) (sym it.front) in
    (drop n y.blocks, ap (λ bs. bs ++ drop n y.blocks) same ∙ take-append-drop n y.blocks)

pub least_is_within : LeastIsWithin
least_is_within i j crash = record {
  geometry = sym crash.geometry;
  fronts = λ n. subst (λ bs. IsPrefix bs (zone_at j n).blocks) (sym (least_zone i.zones n)) (least_front (zone_at i n) (zone_at j n) (crashed_zone i j n crash));
}

pub crash_frames_between : CrashFramesBetween
crash_frames_between i j start pos crash =
    let within : KeepsFronts j (least_crash i) = least_is_within i j crash in
    let fronts : KeepsFronts i j = crash_keeps_fronts i j crash in
    record {
      least = frames_stay_in_order j (least_crash i) start (subst (λ g. 0 < g.block) (sym crash.geometry) pos) within.geometry (within.fronts (zone_of j.geometry start));
      most = frames_stay_in_order i j start pos fronts.geometry (fronts.fronts (zone_of i.geometry start));
    }

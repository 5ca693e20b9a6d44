-- After a change the next one can be recorded.
use Rattle.std.proofs.Common.{◌≡◌, ℕ, zero, suc, ◌+◌, ◌<◌, ◌≤◌, true, false, List, [], ◌∷◌, length, drop, refl, sym, ◌∙◌, ap, subst, arith}
use Rattle.std.proofs.lemmas.List.Sums.{sum_by-cons}
use Rattle.std.specs.Prelude.{cond}
use Rattle.zone_image.specs.declared.ZoneInfo.{ZoneInfo}
use Rattle.zone_image.specs.Changes.{change_at}
use Rattle.zone_image.specs.Infos.{active_zones, is_active_info, no_info}
use Rattle.fs_model.specs.FsState.{FsState, ZoneDescriptor, descriptor_at, descriptor_in, on_descriptor}
use Rattle.fs_model.specs.LogSteps.{after_append, append_blocks}
use Rattle.change_steps.specs.Resetting.{after_reset}
use Rattle.fs_tables.specs.Dead.{IsNextReset}
use Rattle.fs_tables.specs.MountedTables.{AreSound}
use Rattle.fs_tables.specs.Steps.{TakesBlocks, infos_in}
use Rattle.fs_tables.proofs.StepLaws.{infos_after_reset}
use Rattle.fs_tables.proofs.ZoneReads.{unsealed_is_there}
use Rattle.fs_core.specs.Changing.{LogGoesOn}
use Rattle.fs_core.specs.FsValue.{CanWrite}

-- whether a zone is active, as a number
abbrev one_if_active : ZoneInfo → ℕ
one_if_active info = cond (is_active_info info) 1 0

-- an emptied zone isn't active
emptied_not_more : (n : ℕ) (xs : List ZoneInfo) → active_zones (change_at n (λ _. no_info) xs) ≤ active_zones xs
emptied_not_more n [] = omega arith
emptied_not_more zero (x ∷ xs) = omega (arith, sum_by-cons one_if_active no_info xs, sum_by-cons one_if_active x xs)
emptied_not_more (suc n) (x ∷ xs) =
    omega (arith, sum_by-cons one_if_active x (change_at n (λ _. no_info) xs), sum_by-cons one_if_active x xs, emptied_not_more n xs)

-- nor among the data zones
emptied_data : (zone : ℕ) (xs : List ZoneInfo) → 3 ≤ zone → active_zones (drop 3 (change_at zone (λ _. no_info) xs)) ≤ active_zones (drop 3 xs)
emptied_data zero xs behind = absurd (omega arith)
emptied_data (suc zero) xs behind = absurd (omega arith)
emptied_data (suc (suc zero)) xs behind = absurd (omega arith)
emptied_data (suc (suc (suc n))) [] behind = omega arith
emptied_data (suc (suc (suc n))) (a ∷ []) behind = omega arith
emptied_data (suc (suc (suc n))) (a ∷ b ∷ []) behind = omega arith
emptied_data (suc (suc (suc n))) (a ∷ b ∷ c ∷ rest) behind = emptied_not_more n rest

-- another zone stays as it was
other_stays : (n m : ℕ) (f : ZoneDescriptor → ZoneDescriptor) (zs : List ZoneDescriptor) → n < m → descriptor_in (on_descriptor m f zs) n ≡ descriptor_in zs n
other_stays n m f [] less = refl
other_stays n zero f (z ∷ zs) less = absurd (omega arith)
other_stays zero (suc m) f (z ∷ zs) less = refl
other_stays (suc n) (suc m) f (z ∷ zs) less = other_stays n m f zs (omega arith)

-- a zone that is changed
here_changed : (n : ℕ) (f : ZoneDescriptor → ZoneDescriptor) (zs : List ZoneDescriptor) → n < length zs → descriptor_in (on_descriptor n f zs) n ≡ f (descriptor_in zs n)
here_changed n f [] less = absurd (omega arith)
here_changed zero f (z ∷ zs) less = refl
here_changed (suc n) f (z ∷ zs) less = here_changed n f zs (omega arith)

-- a reset keeps what a further change needs
pub reset_can_write : (s : FsState) (zone : ℕ) → AreSound s → IsNextReset s zone → CanWrite s → CanWrite (after_reset zone s)
reset_can_write s zone sound next can =
    let fewer : active_zones (drop 3 (infos_in (after_reset zone s))) ≤ active_zones (drop 3 (infos_in s)) =
    subst (λ (is : List ZoneInfo). active_zones (drop 3 is) ≤ active_zones (drop 3 (infos_in s))) (sym (infos_after_reset s zone)) (emptied_data zone (infos_in s) next.behind_metadata) in
    let below : s.log.zone < zone = omega (arith, sound.log_zone, next.behind_metadata) in
    record {
      room = can.room;
      ends = can.ends;
      active = omega (arith, fewer, can.active);
      points = can.points;
      log =
          subst (λ (z : ZoneDescriptor). 0 < z.info.written)
          (sym (other_stays s.log.zone zone (λ z. record z { info = record { written = 0; sealed = false } }) s.zones below)) can.log;
    }

-- so does a record that is added to the log of u, where the data zones are those of s
pub append_goes_on : (s u v : FsState) (blocks : ℕ) → v ≡ (append_blocks u.log.zone blocks u).last → TakesBlocks u blocks → 0 < blocks → u.log.can_end ≡ true → u.geometry ≡ s.geometry
    → drop 3 (infos_in v) ≡ drop 3 (infos_in s) → active_zones (drop 3 (infos_in s)) < s.geometry.active_limit → LogGoesOn v
append_goes_on s u v blocks is takes some ends shape rest active =
    let there : u.log.zone < length u.zones = unsealed_is_there u u.log.zone takes.unsealed in
    let here = here_changed u.log.zone (after_append u.geometry.capacity blocks) u.zones there in
    let written : (descriptor_at v v.log.zone).info.written ≡ (descriptor_at u u.log.zone).info.written + blocks =
    ap (λ (w : FsState). (descriptor_at w w.log.zone).info.written) is ∙ ap (λ (z : ZoneDescriptor). z.info.written) here in
    let limit : v.geometry.active_limit ≡ s.geometry.active_limit = ap (λ (w : FsState). w.geometry.active_limit) is ∙ ap (λ g. g.active_limit) shape in
    let count = ap active_zones rest in
    record {
      ends = ap (λ (w : FsState). w.log.can_end) is ∙ ends;
      active = omega (arith, count, limit, active);
      log = omega (arith, written, some);
    }

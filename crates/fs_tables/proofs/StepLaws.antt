-- The numbers and seals of all zones after a step, and what stays as it was.
use Rattle.std.proofs.Common.{◌≡◌, ℕ, zero, suc, ◌+◌, List, [], ◌∷◌, map, sum_by, refl, sym, ◌∙◌, ap}
use Rattle.std.proofs.lemmas.List.Sums.{sum_by-cons}
use Rattle.zone_image.specs.declared.ZoneInfo.{ZoneInfo}
use Rattle.zone_image.specs.Changes.{change_at}
use Rattle.zone_image.specs.Infos.{no_info, info_appended, info_finished, infos_appended, infos_finished, infos_emptied}
use Rattle.fs_model.specs.declared.zones.ZoneState.{ZoneState}
use Rattle.fs_model.specs.FsState.{FsState, ZoneDescriptor, on_descriptor, zone_states}
use Rattle.fs_model.specs.LogSteps.{append_blocks, finish_zone, reset_zone}
use Rattle.zone_alloc.specs.ZoneTableState.{state_appended, state_finished, state_emptied, with_hint}
use Rattle.fs_tables.specs.Steps.{infos_in}
use Rattle.fs_tables.proofs.ZoneChanges.{zone_states_changed, appended_is_same, finished_is_same, emptied_is_same, hint_is_same}

-- ---- numbers and seals

-- the same is done to a zone and to its number and seal
infos_changed : (h : ZoneDescriptor → ZoneDescriptor) (k : ZoneInfo → ZoneInfo) → ((z : ZoneDescriptor) → (h z).info ≡ k z.info) → (n : ℕ) (zs : List ZoneDescriptor)
    → map (λ z. z.info) (on_descriptor n h zs) ≡ change_at n k (map (λ z. z.info) zs)
infos_changed h k same n [] = refl
infos_changed h k same zero (z ∷ zs) = ap (λ i. i ∷ map (λ y. y.info) zs) (same z)
infos_changed h k same (suc n) (z ∷ zs) = ap (λ l. z.info ∷ l) (infos_changed h k same n zs)

-- after an append
pub infos_after_append : (s : FsState) (zone blocks : ℕ) → infos_in (append_blocks zone blocks s).last ≡ infos_appended s.geometry (infos_in s) zone blocks
infos_after_append s zone blocks = infos_changed _ (info_appended s.geometry.capacity blocks) (λ z. refl) zone s.zones

-- after a finish
pub infos_after_finish : (s : FsState) (zone : ℕ) → infos_in (finish_zone zone s).last ≡ infos_finished (infos_in s) zone
infos_after_finish s zone = infos_changed _ info_finished (λ z. refl) zone s.zones

-- after a reset
pub infos_after_reset : (s : FsState) (zone : ℕ) → infos_in (reset_zone zone s).last ≡ infos_emptied (infos_in s) zone
infos_after_reset s zone = infos_changed _ (λ _. no_info) (λ z. refl) zone s.zones

-- ---- zones with their live counts

-- after an append
pub zone_states_after_append : (s : FsState) (zone blocks : ℕ) → zone_states (append_blocks zone blocks s).last ≡ change_at zone (state_appended s.geometry.capacity blocks) (zone_states s)
zone_states_after_append s zone blocks = zone_states_changed (state_appended s.geometry.capacity blocks) _ (appended_is_same s.geometry.capacity blocks) s zone

-- after a finish
pub zone_states_after_finish : (s : FsState) (zone : ℕ) → zone_states (finish_zone zone s).last ≡ change_at zone state_finished (zone_states s)
zone_states_after_finish s zone = zone_states_changed state_finished _ finished_is_same s zone

-- after a reset
pub zone_states_after_reset : (s : FsState) (zone : ℕ) → zone_states (reset_zone zone s).last ≡ change_at zone state_emptied (zone_states s)
zone_states_after_reset s zone = zone_states_changed state_emptied _ emptied_is_same s zone

-- with another hint
pub zone_states_with_hint : (s : FsState) (zone hint : ℕ)
    → zone_states (record s { zones = on_descriptor zone (λ z. record z { hint = hint }) s.zones }) ≡ change_at zone (with_hint hint) (zone_states s)
zone_states_with_hint s zone hint = zone_states_changed (with_hint hint) _ (hint_is_same hint) s zone

-- a change that leaves a number of each zone leaves the sum of them, as of the live blocks or the live bytes
pub sum_stays : (count : ZoneState → ℕ) (f : ZoneState → ZoneState) → ((z : ZoneState) → count (f z) ≡ count z) → (n : ℕ) (zs : List ZoneState) → sum_by count (change_at n f zs) ≡ sum_by count zs
sum_stays count f same n [] = refl
sum_stays count f same zero (z ∷ zs) =
    sum_by-cons count (f z) zs ∙ ap (λ k. k + sum_by count zs) (same z) ∙ sym (sum_by-cons count z zs)
sum_stays count f same (suc n) (z ∷ zs) =
    sum_by-cons count z (change_at n f zs) ∙ ap (λ k. count z + k) (sum_stays count f same n zs) ∙ sym (sum_by-cons count z zs)

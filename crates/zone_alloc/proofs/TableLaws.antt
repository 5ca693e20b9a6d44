-- The invariant of a table, and one zone changed.
use Rattle.std.proofs.Common.{◌≡◌, ℕ, zero, suc, ◌+◌, ◌^◌, ◌<◌, Bool, List, [], ◌∷◌, length, map, set, get_or, sum_by, refl, sym, ◌∙◌, ap, arith, zero-add}
use Rattle.std.proofs.lemmas.List.{length-map}
use Rattle.std.proofs.lemmas.List.Elements.{All-map, All-set}
use Rattle.std.proofs.lemmas.List.Sums.{sum_by-cons, sum_by-set}
use Rattle.std.proofs.Math.ListN.{length-set}
use Rattle.zone_image.specs.declared.Geometry.{Geometry}
use Rattle.zone_image.specs.declared.ZoneInfo.{ZoneInfo}
use Rattle.zone_image.specs.Changes.{change_at}
use Rattle.zone_image.specs.Infos.{IsPossible, IsPossibleInfo}
use Rattle.fs_model.specs.declared.zones.ZoneState.{ZoneState}
use Rattle.zone_alloc.specs.ZoneTableState.{ZoneTableState, no_state, unused_state, state_at, with_state, live_blocks, live_bytes, IsZoneTable}

-- nothing is live in zones as a device tells them
pub none_live : (f : ZoneState → ℕ) → ((info : ZoneInfo) → f (unused_state info) ≡ 0) → (infos : List ZoneInfo) → sum_by f (map unused_state infos) ≡ 0
none_live f none [] = refl
none_live f none (info ∷ infos) = sum_by-cons f (unused_state info) (map unused_state infos) ∙ ap (λ (n : ℕ). n + sum_by f (map unused_state infos)) (none info) ∙ zero-add (sum_by f (map unused_state infos)) ∙ none_live f none infos

pub unused_table : (g : Geometry) (infos : List ZoneInfo) → IsPossible g infos → IsZoneTable g (map unused_state infos)
unused_table g infos is = record {
  valid = is.valid;
  count = length-map infos unused_state ∙ is.count;
  each = All-map (λ (z : ZoneState). IsPossibleInfo g z.info) unused_state infos is.each;
  blocks_fit = omega (arith, none_live (λ z. z.live) (λ info. refl) infos);
  bytes_fit = omega (arith, none_live (λ z. z.live_bytes) (λ info. refl) infos);
}

-- a change of one zone sets it
change_at-set : (f : ZoneState → ZoneState) (zone : ℕ) (zs : List ZoneState) → zone < length zs → change_at zone f zs ≡ set zs zone (f (get_or zs zone no_state))
change_at-set f zone [] in_range = absurd (omega arith)
change_at-set f zero (z ∷ zs) in_range = refl
change_at-set f (suc zone) (z ∷ zs) in_range = ap (λ l. z ∷ l) (change_at-set f zone zs (omega arith))

pub set_state : (t : ZoneTableState) (zone : ℕ) (state : ZoneState) → zone < length t.zones → (f : ZoneState → ZoneState) → state ≡ f (state_at t zone)
    → record t { zones = set t.zones zone state } ≡ with_state t zone f
set_state t zone state in_range f made =
    ap (λ zs. record t { zones = zs }) (ap (set t.zones zone) made ∙ sym (change_at-set f zone t.zones in_range))

-- a table keeps its invariant where the zone is possible and the sums fit
pub set_table : (g : Geometry) (zs : List ZoneState) (zone : ℕ) (state : ZoneState) → IsZoneTable g zs → zone < length zs → IsPossibleInfo g state.info
    → live_blocks zs + state.live < 2 ^ 64 + (get_or zs zone no_state).live → live_bytes zs + state.live_bytes < 2 ^ 64 + (get_or zs zone no_state).live_bytes
    → IsZoneTable g (set zs zone state)
set_table g zs zone state is in_range possible blocks bytes = record {
  valid = is.valid;
  count = length-set zs zone state ∙ is.count;
  each = All-set (λ (z : ZoneState). IsPossibleInfo g z.info) zs zone state possible is.each;
  blocks_fit = omega (arith, sum_by-set (λ (z : ZoneState). z.live) zs zone state no_state in_range, blocks);
  bytes_fit = omega (arith, sum_by-set (λ (z : ZoneState). z.live_bytes) zs zone state no_state in_range, bytes);
}

-- a table as a device tells it has nothing live
pub none_live_in : (f : ZoneState → ℕ) → ((info : ZoneInfo) → f (unused_state info) ≡ 0) → (g : Geometry) (collect : Bool) (infos : List ZoneInfo) (t : ZoneTableState)
    → t ≡ record { geometry = g; collect = collect; zones = map unused_state infos } → sum_by f t.zones ≡ 0
none_live_in f none g collect infos t made = ap (λ (s : ZoneTableState). sum_by f s.zones) made ∙ none_live f none infos

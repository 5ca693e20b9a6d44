-- Zones without extents have nothing live, and the other way round.
use Rattle.std.proofs.Common.{◌≡◌, ℕ, zero, suc, ◌+◌, ◌<◌, false, ◌==◌, cond, List, [], ◌∷◌, ◌++◌, map, filter, get_or, sum_by, refl, ◌∙◌, ap, arith, append-nil}
use Rattle.std.specs.Prelude.{flat_map}
use Rattle.std.specs.List.{All, enumerate_from}
use Rattle.std.proofs.lemmas.Bool.{ne_eqb}
use Rattle.std.proofs.lemmas.List.Elements.{All-head, All-tail}
use Rattle.zone_image.specs.declared.Geometry.{Geometry}
use Rattle.zone_image.specs.Image.{zone_of}
use Rattle.record_model.specs.declared.types.Extent.{Extent}
use Rattle.log_model.specs.declared.selection.Chosen.{Chosen}
use Rattle.log_model.specs.FileTable.{Table}
use Rattle.log_model.specs.Mounted.{all_extents}
use Rattle.fs_model.specs.FsState.{FsState, ZoneDescriptor, touched, extents_in, state_of, zone_states, recorded, working, working_of}
use Rattle.zone_alloc.specs.ZoneTableState.{ZoneTableState, no_state, state_at, IsInDataZone}
use Rattle.extent_map.specs.Applying.{rows_of}
use Rattle.extent_map.specs.TableState.{TableState}
use Rattle.fs_tables.specs.MountedTables.{AreSound, AreMounted, state_from}

-- a zone without extents, numbered from the first one
none_live_from : (s : FsState) (n i : ℕ) (zs : List ZoneDescriptor) → extents_in s (i + n) ≡ [] → (get_or (map (state_of s) (enumerate_from i zs)) n no_state).live ≡ 0
none_live_from s n i [] none = refl
none_live_from s zero i (z ∷ zs) none =
    let here : i ≡ i + 0 = omega arith in
    ap (sum_by (touched s.geometry.block)) (ap (extents_in s) here ∙ none)
none_live_from s (suc n) i (z ∷ zs) none =
    let next : i + 1 + n ≡ i + suc n = omega arith in
    none_live_from s n (i + 1) zs (ap (extents_in s) next ∙ none)

-- nothing is live in it
pub none_live : (s : FsState) (t : ZoneTableState) (n : ℕ) → t.zones ≡ zone_states s → extents_in s n ≡ [] → (state_at t n).live ≡ 0
none_live s t n are none =
    let here : 0 + n ≡ n = omega arith in
    ap (λ zs. (get_or zs n no_state).live) are ∙ none_live_from s n 0 s.zones (ap (extents_in s) here ∙ none)

-- ---- the extents of a state in which everything is recorded

extents_of_rows : (es : Table) → flat_map (λ e. e.extents) (working_of (rows_of es)) ≡ all_extents es
extents_of_rows [] = refl
extents_of_rows (e ∷ es) =
    ap (λ xs. xs ++ flat_map (λ f. f.extents) (working_of (rows_of es))) (append-nil e.extents) ∙ ap (λ xs. e.extents ++ xs) (extents_of_rows es)

-- they are those of its recorded table
pub recorded_extents : (s : FsState) → s.rows ≡ rows_of (recorded s) → flat_map (λ e. e.extents) (working s) ≡ all_extents (recorded s)
recorded_extents s settled = ap (λ rs. flat_map (λ e. e.extents) (working_of rs)) settled ∙ extents_of_rows (recorded s)

-- none of these extents lies in a metadata zone
none_below : (g : Geometry) (n : ℕ) (xs : List Extent) → n < 3 → All (IsInDataZone g) xs → filter (λ x. zone_of g x.start == n) xs ≡ []
none_below g n [] low lie = refl
none_below g n (x ∷ xs) low lie =
    let here = All-head (IsInDataZone g) x xs lie in
    let other : (zone_of g x.start == n) ≡ false = ne_eqb (zone_of g x.start) n (λ same. omega (arith, here.behind_metadata)) in
    let rest = none_below g n xs low (All-tail (IsInDataZone g) x xs lie) in
    ap (λ b. cond b (x ∷ filter (λ y. zone_of g y.start == n) xs) (filter (λ y. zone_of g y.start == n) xs)) other ∙ rest

pub metadata_dead : (s : FsState) → AreSound s → (n : ℕ) → n < 3 → extents_in s n ≡ []
metadata_dead s sound n low =
    ap (filter (λ x. zone_of s.geometry x.start == n)) (recorded_extents s sound.settled) ∙ none_below s.geometry n (all_extents (recorded s)) low sound.lie

-- nothing is live in a metadata zone of tables
pub metadata_none_live : (g : Geometry) (log : Chosen) (files : TableState) (t : ZoneTableState) → AreMounted g log files t → (n : ℕ) → n < 3 → (state_at t n).live ≡ 0
metadata_none_live g log files t are n low = none_live (state_from g log files t) t n are.counted (metadata_dead (state_from g log files t) are.sound n low)

-- The lowest data zone that may be reset, and those that are left after it.
use Rattle.std.proofs.Common.{◌≡◌, ℕ, zero, suc, ◌+◌, ◌-◌, ◌<◌, ◌≤◌, Bool, true, false, ◌&&◌, ◌||◌, ◌==◌, cond, List, [], ◌∷◌, length, map, filter, sum_by, Some, None, refl, sym, ◌∙◌, ap, arith}
use Rattle.std.specs.Prelude.{option_map}
use Rattle.std.specs.List.{AllByRecursion, enumerate_from}
use Rattle.std.proofs.lemmas.Bool.{and_parts, eqb-true}
use Rattle.std.proofs.lemmas.List.Sums.{sum_by-cons}
use Rattle.zone_image.specs.declared.Geometry.{Geometry}
use Rattle.zone_image.specs.Image.{zone_of}
use Rattle.zone_image.specs.Changes.{change_at}
use Rattle.record_model.specs.declared.types.Extent.{Extent}
use Rattle.log_model.specs.Mounted.{all_extents}
use Rattle.fs_model.specs.declared.zones.ZoneState.{ZoneState}
use Rattle.fs_model.specs.ZonePolicy.{Numbered, data_zones, first, is_idle, has_blocks}
use Rattle.fs_model.specs.VictimPolicy.{is_resettable, resettable}
use Rattle.fs_model.specs.FsState.{FsState, touched, extents_in, zone_states, recorded}
use Rattle.fs_model.specs.LogSteps.{resettable_zones}
use Rattle.zone_alloc.specs.NamedZones.{IsNamed}
use Rattle.zone_alloc.specs.ZoneTableState.{ZoneTableState, state_at, state_emptied}
use Rattle.fs_tables.specs.MountedTables.{AreSound}
use Rattle.fs_tables.specs.Dead.{AvoidsZone, IsNextReset}
use Rattle.fs_tables.proofs.LiveLaws.{recorded_extents}
use Rattle.fs_tables.proofs.StepLaws.{zone_states_after_reset}
use Rattle.fs_tables.proofs.ZoneReads.{state_at_is}

-- ---- the zones that are left

-- the first zone that is found stands behind the first number
found_behind : (p : Numbered → Bool) (i : ℕ) (zs : List ZoneState) (q : Numbered) (rest : List Numbered) → filter p (enumerate_from i zs) ≡ q ∷ rest → i ≤ q.0
found_behind p i [] q rest found = absurd cc
found_behind p i (z ∷ zs) q rest found = go (found_behind p (i + 1) zs q rest) (p (i, z)) found
  where
    go : (filter p (enumerate_from (i + 1) zs) ≡ q ∷ rest → i + 1 ≤ q.0) → (b : Bool) → cond b ((i, z) ∷ filter p (enumerate_from (i + 1) zs)) (filter p (enumerate_from (i + 1) zs)) ≡ q ∷ rest → i ≤ q.0
    go more true here = let same : (i, z) ≡ q = cc in omega (arith, ap (λ (r : Numbered). r.0) same)
    go more false later = omega (arith, more later)

-- where it passes no more, the rest is found
left_from : (p : Numbered → Bool) (f : ZoneState → ZoneState) → ((n : ℕ) (z : ZoneState) → p (n, f z) ≡ false) → (i k : ℕ) (zs : List ZoneState) (q : Numbered) (rest : List Numbered)
    → filter p (enumerate_from i zs) ≡ q ∷ rest → q.0 ≡ i + k → filter p (enumerate_from i (change_at k f zs)) ≡ rest
left_from p f fails i k [] q rest found at = absurd cc
left_from p f fails i zero (z ∷ zs) q rest found at =
    ap (λ b. cond b ((i, f z) ∷ filter p (enumerate_from (i + 1) zs)) (filter p (enumerate_from (i + 1) zs))) (fails i z) ∙ go (p (i, z)) found
  where
    go : (b : Bool) → cond b ((i, z) ∷ filter p (enumerate_from (i + 1) zs)) (filter p (enumerate_from (i + 1) zs)) ≡ q ∷ rest → filter p (enumerate_from (i + 1) zs) ≡ rest
    go true here = cc
    go false later = let behind = found_behind p (i + 1) zs q rest later in absurd (omega (arith, behind))
left_from p f fails i (suc k) (z ∷ zs) q rest found at = go (left_from p f fails (i + 1) k zs q rest) (p (i, z)) found
  where
    go : (filter p (enumerate_from (i + 1) zs) ≡ q ∷ rest → q.0 ≡ i + 1 + k → filter p (enumerate_from (i + 1) (change_at k f zs)) ≡ rest)
        → (b : Bool) → cond b ((i, z) ∷ filter p (enumerate_from (i + 1) zs)) (filter p (enumerate_from (i + 1) zs)) ≡ q ∷ rest
        → cond b ((i, z) ∷ filter p (enumerate_from (i + 1) (change_at k f zs))) (filter p (enumerate_from (i + 1) (change_at k f zs))) ≡ rest
    go more true here = let same : (i, z) ≡ q = cc in absurd (omega (arith, ap (λ (r : Numbered). r.0) same))
    go more false later = let next : q.0 ≡ i + 1 + k = omega arith in more later next

-- the same of data zones
left_of_data : (p : Numbered → Bool) (f : ZoneState → ZoneState) → ((n : ℕ) (z : ZoneState) → p (n, f z) ≡ false) → (zs : List ZoneState) (q : Numbered) (rest : List Numbered)
    → filter p (data_zones zs) ≡ q ∷ rest → filter p (data_zones (change_at q.0 f zs)) ≡ rest
left_of_data p f fails [] q rest found = absurd cc
left_of_data p f fails (a ∷ []) q rest found = absurd cc
left_of_data p f fails (a ∷ b ∷ []) q rest found = absurd cc
left_of_data p f fails (a ∷ b ∷ c ∷ zs) q rest found =
    let behind : 3 ≤ q.0 = found_behind p 3 zs q rest found in
    let place : q.0 ≡ 3 + (q.0 - 3) = omega arith in
    let steps : q.0 ≡ suc (suc (suc (q.0 - 3))) = omega arith in
    ap (λ n. filter p (data_zones (change_at n f (a ∷ b ∷ c ∷ zs)))) steps ∙ left_from p f fails 3 (q.0 - 3) zs q rest found place

-- an emptied zone needs no reset
emptied_stays : (n : ℕ) (z : ZoneState) → is_resettable (n, state_emptied z) ≡ false
emptied_stays n z = go (is_idle z)
  where
    go : (b : Bool) → (b && false && (z.live == 0)) ≡ false
    go true = refl
    go false = refl

-- ---- a zone with nothing live

no_extents : (block : ℕ) (xs : List Extent) → sum_by (touched block) xs ≡ 0 → xs ≡ []
no_extents block [] none = refl
no_extents block (x ∷ xs) none =
    let some : touched block x ≡ (touched block x - 1) + 1 = omega arith in
    absurd (omega (arith, sum_by-cons (touched block) x xs))

-- of extents of which none lies in a zone, each lies in another
none_there : (g : Geometry) (n : ℕ) (xs : List Extent) → filter (λ x. zone_of g x.start == n) xs ≡ [] → AllByRecursion (λ x. (zone_of g x.start == n) ≡ false) xs
none_there g n [] none = tt
none_there g n (x ∷ xs) none = go (none_there g n xs) (zone_of g x.start == n) refl none
  where
    go : (filter (λ y. zone_of g y.start == n) xs ≡ [] → AllByRecursion (λ y. (zone_of g y.start == n) ≡ false) xs) → (b : Bool) → (zone_of g x.start == n) ≡ b → cond b (x ∷ filter (λ y. zone_of g y.start == n) xs) (filter (λ y. zone_of g y.start == n) xs) ≡ []
        → AllByRecursion (λ y. (zone_of g y.start == n) ≡ false) (x ∷ xs)
    go more true here none = absurd cc
    go more false other none = (other, more none)

pub avoids : (s : FsState) → AreSound s → (zone : ℕ) → extents_in s zone ≡ [] → AvoidsZone s zone
avoids s sound zone dead =
    none_there s.geometry zone (all_extents (recorded s))
    (sym (ap (filter (λ x. zone_of s.geometry x.start == zone)) (recorded_extents s sound.settled)) ∙ dead)

-- ---- the zone that is named

-- none is named where there is none
pub none_left : (s : FsState) → resettable (zone_states s) ≡ None → resettable_zones s ≡ []
unfolding resettable
none_left s none = go (filter is_resettable (data_zones (zone_states s))) none
  where
    go : (zs : List Numbered) → option_map (λ z. z.0) (first zs) ≡ None → map (λ z. z.0) zs ≡ []
    go [] none = refl
    go (z ∷ zs) none = absurd cc

-- the first one, and the others
record Others (s : FsState) (zone : ℕ) : Type 0 where
  rest : List Numbered
  found : Numbered
  number : found.0 ≡ zone
  all : filter is_resettable (data_zones (zone_states s)) ≡ found ∷ rest

others : (s : FsState) (zone : ℕ) → resettable (zone_states s) ≡ Some zone → Others s zone
unfolding resettable
others s zone some = go (filter is_resettable (data_zones (zone_states s))) refl some
  where
    go : (zs : List Numbered) → filter is_resettable (data_zones (zone_states s)) ≡ zs → option_map (λ z. z.0) (first zs) ≡ Some zone → Others s zone
    go [] all some = absurd cc
    go (z ∷ zs) all some = record { rest = zs; found = z; number = cc; all = all }

pub next_reset : (s : FsState) → AreSound s → (t : ZoneTableState) → t.zones ≡ zone_states s → t.geometry ≡ s.geometry → (zone : ℕ) → resettable t.zones ≡ Some zone → IsNamed is_resettable t zone
    → IsNextReset s zone
next_reset s sound t are same zone some named =
    let is_zone : zone < s.geometry.zones = omega (arith, named.is_zone, ap (λ (g : Geometry). g.zones) same) in
    let there : zone < length s.zones = omega (arith, sound.count) in
    let o = others s zone (sym (ap resettable are) ∙ some) in
    let tests = and_parts (is_idle (state_at t zone) && (has_blocks (state_at t zone) || (state_at t zone).info.sealed)) ((state_at t zone).live == 0) named.passes in
    let none : sum_by (touched s.geometry.block) (extents_in s zone) ≡ 0 = sym (ap (λ (z : ZoneState). z.live) (state_at_is s t zone are there)) ∙ eqb-true _ _ tests.1 in
    let dead = no_extents s.geometry.block (extents_in s zone) none in
    record {
      behind_metadata = named.behind_metadata;
      is_zone = is_zone;
      dead = dead;
      avoided = avoids s sound zone dead;
      rest = map (λ z. z.0) o.rest;
      first = ap (map (λ (z : Numbered). z.0)) o.all ∙ ap (λ n. n ∷ map (λ (z : Numbered). z.0) o.rest) o.number;
      left =
          ap (λ zs. map (λ (z : Numbered). z.0) (filter is_resettable (data_zones zs))) (zone_states_after_reset s zone)
          ∙ ap (λ n. map (λ (z : Numbered). z.0) (filter is_resettable (data_zones (change_at n state_emptied (zone_states s))))) (sym o.number)
          ∙ ap (map (λ (z : Numbered). z.0)) (left_of_data is_resettable state_emptied emptied_stays (zone_states s) o.found o.rest o.all);
    }

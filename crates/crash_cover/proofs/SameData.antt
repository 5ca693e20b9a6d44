-- A table reads the same in images that differ only where it has nothing.
use Rattle.std.specs.Prelude.{◌≡◌, ℕ, ◌+◌, ◌*◌, ◌/◌, ◌%◌, ◌≤◌, Bool, true, false, not, ◌&&◌, ◌||◌, cond, List, [], ◌∷◌, length, map, drop, nat_lt, nat_le, ◌==◌, Option, Some, None, if◌then◌else◌, refl}
use Rattle.std.proofs.Common.{◌∙◌, ap}
use Rattle.std.proofs.lemmas.Bool.{leb-true, eqb-false, and_parts}
use Rattle.std.specs.List.{AllByRecursion, list_all}
use Rattle.zone_image.specs.declared.Geometry.{Geometry}
use Rattle.zone_image.specs.Image.{Image, zone_at, zone_of, offset_of}
use Rattle.record_model.specs.declared.types.Extent.{Extent}
use Rattle.record_model.specs.declared.types.FileEntry.{FileEntry}
use Rattle.log_model.specs.FileTable.{Table}
use Rattle.log_model.specs.Frames.{no_active, blocks_from, frames_at, rest_at, frames_within, extent_if_any, is_recovery_point, recovered_extents}
use Rattle.log_model.specs.Mounted.{is_written, all_extents, entry_with, recovered_entry, has_valid_recovery_point, overlap, broken_rule}
use Rattle.crash_cover.specs.SameData.{HaveSameData, RecoversElsewhere, Avoids, DataDecidesTable}

-- tests behind a first one matter only where that one passes
behind_first : (b p q r : Bool) → (b ≡ true → q ≡ r) → b && p && q ≡ b && p && r
behind_first false p q r h = refl
behind_first true false q r h = refl
behind_first true true q r h = h refl

-- the same with two between
behind_second : (b o p q r : Bool) → (b ≡ true → q ≡ r) → b && o && p && q ≡ b && o && p && r
behind_second false o p q r h = refl
behind_second true false p q r h = refl
behind_second true true false q r h = refl
behind_second true true true q r h = h refl

-- written, by the geometry and the blocks of the extent's zone
written_in : Geometry → List (List ℕ) → Extent → Bool
written_in g blocks x =
    nat_le 3 (zone_of g x.start) && nat_lt (zone_of g x.start) g.zones && nat_le (offset_of g x.start + x.len) (length blocks * g.block)

-- a recovery point, by the same
point_in : Geometry → List (List ℕ) → ℕ → Bool
point_in g blocks start =
    nat_le 3 (zone_of g start) && nat_lt (zone_of g start) g.zones && (offset_of g start % g.block == 0)
    && nat_le (offset_of g start) (length blocks * g.block)

-- the blocks count only in a data zone
written_by : (g : Geometry) (a b : List (List ℕ)) (x : Extent) → (3 ≤ zone_of g x.start → a ≡ b) → written_in g a x ≡ written_in g b x
unfolding written_in
written_by g a b x h =
    behind_first (nat_le 3 (zone_of g x.start)) (nat_lt (zone_of g x.start) g.zones) _ _
    (λ data_zone. ap (λ bs. nat_le (offset_of g x.start + x.len) (length bs * g.block)) (h (leb-true 3 (zone_of g x.start) data_zone)))

-- the blocks count only in a data zone
point_by : (g : Geometry) (a b : List (List ℕ)) (start : ℕ) → (3 ≤ zone_of g start → a ≡ b) → point_in g a start ≡ point_in g b start
unfolding point_in
point_by g a b start h =
    behind_second (nat_le 3 (zone_of g start)) (nat_lt (zone_of g start) g.zones) (offset_of g start % g.block == 0) _ _
    (λ data_zone. ap (λ bs. nat_le (offset_of g start) (length bs * g.block)) (h (leb-true 3 (zone_of g start) data_zone)))

-- a test counts only where a first one fails
unset_or : (unset p q : Bool) → (unset ≡ false → p ≡ q) → unset || p ≡ unset || q
unset_or true p q h = refl
unset_or false p q h = h refl

-- what is found from a recovery point, if it is one
found_or : (unset p q sparse : Bool) (a b c d : List Extent) → (unset ≡ false → p ≡ q) → (unset ≡ false → q ≡ true → (a ≡ b) × (c ≡ d))
    → cond (unset || not p) [] (cond sparse a c) ≡ cond (unset || not q) [] (cond sparse b d)
found_or true p q sparse a b c d h g = refl
found_or false p true true a b c d h g = ap (λ r. cond (not r) [] a) (h refl) ∙ (g refl refl).0
found_or false p true false a b c d h g = ap (λ r. cond (not r) [] c) (h refl) ∙ (g refl refl).1
found_or false p false sparse a b c d h g = ap (λ r. cond (not r) [] (cond sparse a c)) (h refl)

-- a recovery point lies in a data zone
point_is_data : (i : Image) (start : ℕ) → is_recovery_point i start ≡ true → 3 ≤ zone_of i.geometry start
point_is_data i start h =
    let z = zone_of i.geometry start in
    let upper = and_parts (nat_le 3 z && nat_lt z i.geometry.zones && (offset_of i.geometry start % i.geometry.block == 0)) _ h in
    let middle = and_parts (nat_le 3 z && nat_lt z i.geometry.zones) _ upper.0 in
    leb-true 3 z (and_parts (nat_le 3 z) _ middle.0).0

-- the first of three rules that is broken
first_broken : Bool → Bool → Bool → Option ℕ
first_broken written shared valid = if not written then Some 8 else if shared then Some 9 else if not valid then Some 10 else None

module _ (changed : ℕ → Bool) (i j : Image) (same : HaveSameData changed i j) where
  -- the blocks of the zone of an address
  blocks_same : (start : ℕ) → changed (zone_of i.geometry start) ≡ false → 3 ≤ zone_of i.geometry start → (zone_at j (zone_of i.geometry start)).blocks ≡ (zone_at i (zone_of i.geometry start)).blocks
  blocks_same start away data_zone = same.blocks (zone_of i.geometry start) data_zone away

  -- an extent is written in both
  written_same : (x : Extent) → changed (zone_of i.geometry x.start) ≡ false → is_written j x ≡ is_written i x
  unfolding written_in
  written_same x away =
      ap (λ g. written_in g (zone_at j (zone_of g x.start)).blocks x) same.geometry
      ∙ written_by i.geometry (zone_at j (zone_of i.geometry x.start)).blocks (zone_at i (zone_of i.geometry x.start)).blocks x (blocks_same x.start away)

  -- so are all extents
  all_written : (xs : List Extent) → AllByRecursion (λ x. changed (zone_of i.geometry x.start) ≡ false) xs → list_all (is_written j) xs ≡ list_all (is_written i) xs
  all_written [] away = refl
  all_written (x ∷ xs) away = ap (λ b. b && list_all (is_written j) xs) (written_same x away.0) ∙ ap (λ b. is_written i x && b) (all_written xs away.1)

  -- an address is a recovery point in both
  point_same : (start : ℕ) → changed (zone_of i.geometry start) ≡ false → is_recovery_point j start ≡ is_recovery_point i start
  unfolding point_in
  point_same start away =
      ap (λ g. point_in g (zone_at j (zone_of g start)).blocks start) same.geometry
      ∙ point_by i.geometry (zone_at j (zone_of i.geometry start)).blocks (zone_at i (zone_of i.geometry start)).blocks start (blocks_same start away)

  -- the blocks from an address on
  from_same : (start : ℕ) → changed (zone_of i.geometry start) ≡ false → 3 ≤ zone_of i.geometry start → blocks_from j start ≡ blocks_from i start
  from_same start away data_zone =
      ap (λ g. drop (offset_of g start / g.block) (zone_at j (zone_of g start)).blocks) same.geometry
      ∙ ap (λ bs. drop (offset_of i.geometry start / i.geometry.block) bs) (blocks_same start away data_zone)

  -- the frames from there on
  frames_same : (start : ℕ) → changed (zone_of i.geometry start) ≡ false → 3 ≤ zone_of i.geometry start → frames_at j start ≡ frames_at i start
  unfolding frames_at
  frames_same start away data_zone =
      ap (λ g. frames_within (length (blocks_from j start)) g.block start (blocks_from j start)) same.geometry
      ∙ ap (λ bs. frames_within (length bs) i.geometry.block start bs) (from_same start away data_zone)

  -- the rest of the zone
  rest_same : (start : ℕ) → changed (zone_of i.geometry start) ≡ false → 3 ≤ zone_of i.geometry start → rest_at j start ≡ rest_at i start
  rest_same start away data_zone =
      ap (λ g. extent_if_any start (length (blocks_from j start) * g.block)) same.geometry
      ∙ ap (λ bs. extent_if_any start (length bs * i.geometry.block)) (from_same start away data_zone)

  -- an entry whose recovery point, if it has any, is elsewhere has a valid one in both
  valid_same : (e : FileEntry) → RecoversElsewhere changed i.geometry e → has_valid_recovery_point j e ≡ has_valid_recovery_point i e
  valid_same e away = unset_or (e.active == no_active) (is_recovery_point j e.active) (is_recovery_point i e.active) (λ set. point_same e.active (away (eqb-false e.active no_active set)))

  -- so have all entries
  all_valid : (es : Table) → AllByRecursion (RecoversElsewhere changed i.geometry) es → list_all (has_valid_recovery_point j) es ≡ list_all (has_valid_recovery_point i) es
  all_valid [] away = refl
  all_valid (e ∷ es) away = ap (λ b. b && list_all (has_valid_recovery_point j) es) (valid_same e away.0) ∙ ap (λ b. has_valid_recovery_point i e && b) (all_valid es away.1)

  -- the same extents are found again
  found_same : (e : FileEntry) → RecoversElsewhere changed i.geometry e → recovered_extents j e ≡ recovered_extents i e
  found_same e away =
      found_or (e.active == no_active) (is_recovery_point j e.active) (is_recovery_point i e.active) e.sparse (frames_at j e.active) (frames_at i e.active) (rest_at j e.active) (rest_at i e.active)
      (λ set. point_same e.active (away (eqb-false e.active no_active set)))
      (λ set valid.
      let zone : changed (zone_of i.geometry e.active) ≡ false = away (eqb-false e.active no_active set) in
      let data_zone : 3 ≤ zone_of i.geometry e.active = point_is_data i e.active valid in
      (frames_same e.active zone data_zone, rest_same e.active zone data_zone))

  -- so of all entries
  all_found : (es : Table) → AllByRecursion (RecoversElsewhere changed i.geometry) es → map (recovered_entry j) es ≡ map (recovered_entry i) es
  all_found [] away = refl
  all_found (e ∷ es) away =
      ap (λ found. entry_with e found ∷ map (recovered_entry j) es) (found_same e away.0) ∙ ap (λ rest. recovered_entry i e ∷ rest) (all_found es away.1)

  -- the same rule is broken
  rule_same : (es : Table) → Avoids changed i.geometry es → broken_rule j es ≡ broken_rule i es
  unfolding first_broken
  rule_same es away =
      ap (λ b. first_broken b (overlap (all_extents (map (recovered_entry j) es))) (list_all (has_valid_recovery_point j) es)) (all_written (all_extents es) away.extents)
      ∙ ap (λ found. first_broken (list_all (is_written i) (all_extents es)) (overlap (all_extents found)) (list_all (has_valid_recovery_point j) es)) (all_found es away.points)
      ∙ ap (first_broken (list_all (is_written i) (all_extents es)) (overlap (all_extents (map (recovered_entry i) es)))) (all_valid es away.points)

pub data_decides_table : DataDecidesTable
data_decides_table changed i j es same away = record {
  rule = rule_same changed i j same es away;
  found = all_found changed i j same es away.points;
}

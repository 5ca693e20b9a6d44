-- Tables whose extents and recovery points every crash keeps.
use Rattle.std.specs.Prelude.{◌≡◌, ℕ, ◌+◌, ◌*◌, ◌%◌, ◌≤◌, Bool, true, false, ◌&&◌, ◌||◌, List, [], ◌∷◌, ◌++◌, length, nat_lt, nat_le, ◌==◌, refl}
use Rattle.std.proofs.Common.{◌∙◌, ap, arith}
use Rattle.std.proofs.Math.Nat.{mul-le-mul_right}
use Rattle.std.proofs.lemmas.Bool.{leb-true, le-leb, eqb-false, and_parts, and_from}
use Rattle.std.specs.List.{AllByRecursion, list_all}
use Rattle.zone_image.specs.declared.Geometry.{Geometry}
use Rattle.zone_image.specs.Image.{Image, zone_at, zone_of, offset_of}
use Rattle.record_model.specs.declared.types.Extent.{Extent}
use Rattle.record_model.specs.declared.types.FileEntry.{FileEntry}
use Rattle.log_model.specs.FileTable.{Table}
use Rattle.log_model.specs.Frames.{no_active, is_recovery_point}
use Rattle.log_model.specs.Mounted.{is_written, all_extents, has_valid_recovery_point}
use Rattle.log_model.proofs.CrashLaws.{crashed_zone, crash_keeps_fronts}
use Rattle.log_model.proofs.KeptTable.{kept_table_stays}
use Rattle.crash_cover.specs.SameData.{HaveSameData, RecoversElsewhere}
use Rattle.crash_cover.specs.Pinned.{is_durable, is_durable_point, has_durable_point, KeepsDurable, CrashKeepsDurable, PinnedTableStays, PinnedIsKept}
use Rattle.crash_cover.proofs.SameData.{data_decides_table}

pub crash_keeps_durable : CrashKeepsDurable
crash_keeps_durable i j h = record {
  fronts = crash_keeps_fronts i j h;
  enough = λ n. (crashed_zone i j n h).enough;
}

-- within so many blocks of a data zone
within : Geometry → ℕ → Extent → Bool
within g count x =
    nat_le 3 (zone_of g x.start) && nat_lt (zone_of g x.start) g.zones && nat_le (offset_of g x.start + x.len) (count * g.block)

-- the start of one of so many blocks, or the end of the last
starts_within : Geometry → ℕ → ℕ → Bool
starts_within g count start =
    nat_le 3 (zone_of g start) && nat_lt (zone_of g start) g.zones && (offset_of g start % g.block == 0)
    && nat_le (offset_of g start) (count * g.block)

-- a number of bytes within fewer blocks is within more
more_blocks : (bytes block few many : ℕ) → few ≤ many → nat_le bytes (few * block) ≡ true → nat_le bytes (many * block) ≡ true
more_blocks bytes block few many h le =
    let more : few * block ≤ many * block = mul-le-mul_right block h in
    le-leb bytes (many * block) (omega (arith, leb-true bytes (few * block) le))

-- what is within fewer blocks is within more
within_more : (g : Geometry) (few many : ℕ) (x : Extent) → few ≤ many → within g few x ≡ true → within g many x ≡ true
unfolding within
within_more g few many x h le =
    let parts = and_parts (nat_le 3 (zone_of g x.start) && nat_lt (zone_of g x.start) g.zones) (nat_le (offset_of g x.start + x.len) (few * g.block)) le in
    and_from (nat_le 3 (zone_of g x.start) && nat_lt (zone_of g x.start) g.zones) (nat_le (offset_of g x.start + x.len) (many * g.block)) parts.0
    (more_blocks (offset_of g x.start + x.len) g.block few many h parts.1)

-- the same of a start
starts_more : (g : Geometry) (few many start : ℕ) → few ≤ many → starts_within g few start ≡ true → starts_within g many start ≡ true
unfolding starts_within
starts_more g few many start h le =
    let front = nat_le 3 (zone_of g start) && nat_lt (zone_of g start) g.zones && (offset_of g start % g.block == 0) in
    let parts = and_parts front (nat_le (offset_of g start) (few * g.block)) le in
    and_from front (nat_le (offset_of g start) (many * g.block)) parts.0 (more_blocks (offset_of g start) g.block few many h parts.1)

-- an extent in durable blocks is written where these are kept
pub kept_written : (i j : Image) (x : Extent) → KeepsDurable i j → is_durable i x ≡ true → is_written j x ≡ true
unfolding within
kept_written i j x keeps h =
    let n = zone_of i.geometry x.start in
    ap (λ g. within g (length (zone_at j (zone_of g x.start)).blocks) x) keeps.fronts.geometry
    ∙ within_more i.geometry (zone_at i n).kept (length (zone_at j n).blocks) x (keeps.enough n) h

-- a point in durable blocks is one where these are kept
pub kept_point : (i j : Image) (start : ℕ) → KeepsDurable i j → is_durable_point i start ≡ true → is_recovery_point j start ≡ true
unfolding starts_within
kept_point i j start keeps h =
    let n = zone_of i.geometry start in
    ap (λ g. starts_within g (length (zone_at j (zone_of g start)).blocks) start) keeps.fronts.geometry
    ∙ starts_more i.geometry (zone_at i n).kept (length (zone_at j n).blocks) start (keeps.enough n) h

-- a file without a point has a valid one, as one whose point is kept
valid_kept : (unset p q : Bool) → (p ≡ true → q ≡ true) → unset || p ≡ true → unset || q ≡ true
valid_kept true p q h g = refl
valid_kept false p q h g = h g

-- the same, of a point that is set
set_kept : (unset p q : Bool) → (unset ≡ false → p ≡ true → q ≡ true) → unset || p ≡ true → unset || q ≡ true
set_kept true p q h g = refl
set_kept false p q h g = h refl g

-- all of them
all_weaker : {A : Type 0} (p q : A → Bool) (xs : List A) → ((x : A) → p x ≡ true → q x ≡ true) → list_all p xs ≡ true → list_all q xs ≡ true
all_weaker p q [] h g = refl
all_weaker p q (x ∷ xs) h g =
    let parts = and_parts (p x) (list_all p xs) g in
    and_from (q x) (list_all q xs) (h x parts.0) (all_weaker p q xs h parts.1)

-- durable extents of all files are durable of each
pub split_durable : (i : Image) (e : FileEntry) (es : Table) → list_all (is_durable i) (all_extents (e ∷ es)) ≡ true
    → (list_all (is_durable i) e.extents ≡ true) × (list_all (is_durable i) (all_extents es) ≡ true)
split_durable i e es h = parts e.extents h
  where
    parts : (xs : List Extent) → list_all (is_durable i) (xs ++ all_extents es) ≡ true → (list_all (is_durable i) xs ≡ true) × (list_all (is_durable i) (all_extents es) ≡ true)
    parts [] h = (refl, h)
    parts (x ∷ xs) h =
        let head = and_parts (is_durable i x) (list_all (is_durable i) (xs ++ all_extents es)) h in
        let tail = parts xs head.1 in
        (and_from (is_durable i x) (list_all (is_durable i) xs) head.0 tail.0, tail.1)

pub pinned_table_stays : PinnedTableStays
pinned_table_stays i j es pos keeps pinned =
    kept_table_stays i j es keeps.fronts pos pinned.sparse
    (all_weaker (is_durable i) (is_written j) (all_extents es) (λ x. kept_written i j x keeps) pinned.extents)
    (all_weaker (has_durable_point i) (has_valid_recovery_point j) es
    (λ e. valid_kept (e.active == no_active) (is_durable_point i e.active) (is_recovery_point j e.active) (kept_point i j e.active keeps)) pinned.points)
    pinned.unbroken

module _ (changed : ℕ → Bool) (i j : Image) (same : HaveSameData changed i j) where
  -- an extent that was durable is
  durable_still : (x : Extent) → changed (zone_of i.geometry x.start) ≡ false → is_durable i x ≡ true → is_durable j x ≡ true
  unfolding within
  durable_still x away h =
      let n = zone_of i.geometry x.start in
      let data_zone = leb-true 3 n (and_parts (nat_le 3 n) (nat_lt n i.geometry.zones) (and_parts (nat_le 3 n && nat_lt n i.geometry.zones) _ h).0).0 in
      ap (λ g. within g (zone_at j (zone_of g x.start)).kept x) same.geometry
      ∙ within_more i.geometry (zone_at i n).kept (zone_at j n).kept x (same.kept n data_zone away) h

  -- so are all extents
  all_durable : (xs : List Extent) → AllByRecursion (λ x. changed (zone_of i.geometry x.start) ≡ false) xs → list_all (is_durable i) xs ≡ true → list_all (is_durable j) xs ≡ true
  all_durable [] away h = refl
  all_durable (x ∷ xs) away h =
      let parts = and_parts (is_durable i x) (list_all (is_durable i) xs) h in
      and_from (is_durable j x) (list_all (is_durable j) xs) (durable_still x away.0 parts.0) (all_durable xs away.1 parts.1)

  -- a point that was durable is
  point_durable : (start : ℕ) → changed (zone_of i.geometry start) ≡ false → is_durable_point i start ≡ true → is_durable_point j start ≡ true
  unfolding starts_within
  point_durable start away h =
      let n = zone_of i.geometry start in
      let upper = and_parts (nat_le 3 n && nat_lt n i.geometry.zones && (offset_of i.geometry start % i.geometry.block == 0)) _ h in
      let data_zone = leb-true 3 n (and_parts (nat_le 3 n) (nat_lt n i.geometry.zones) (and_parts (nat_le 3 n && nat_lt n i.geometry.zones) _ upper.0).0).0 in
      ap (λ g. starts_within g (zone_at j (zone_of g start)).kept start) same.geometry
      ∙ starts_more i.geometry (zone_at i n).kept (zone_at j n).kept start (same.kept n data_zone away) h

  -- so are all points
  points_durable : (es : Table) → AllByRecursion (RecoversElsewhere changed i.geometry) es → list_all (has_durable_point i) es ≡ true → list_all (has_durable_point j) es ≡ true
  points_durable [] away h = refl
  points_durable (e ∷ es) away h =
      let parts = and_parts (has_durable_point i e) (list_all (has_durable_point i) es) h in
      let first = set_kept (e.active == no_active) (is_durable_point i e.active) (is_durable_point j e.active)
      (λ set. point_durable e.active (away.0 (eqb-false e.active no_active set))) parts.0 in
      and_from (has_durable_point j e) (list_all (has_durable_point j) es) first (points_durable es away.1 parts.1)

pub pinned_is_kept : PinnedIsKept
pinned_is_kept changed i j es same away pinned = record {
  extents = all_durable changed i j same (all_extents es) away.extents pinned.extents;
  points = points_durable changed i j same es away.points pinned.points;
  sparse = pinned.sparse;
  unbroken = (data_decides_table changed i j es same away).rule ∙ pinned.unbroken;
}

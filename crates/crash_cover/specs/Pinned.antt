-- Tables whose extents and recovery points every crash keeps.
use Rattle.std.specs.Prelude.{◌≡◌, ℕ, ◌+◌, ◌*◌, ◌%◌, ◌<◌, ◌≤◌, Bool, true, ◌&&◌, ◌||◌, length, None, nat_lt, nat_le, ◌==◌}
use Rattle.std.specs.List.{AllByRecursion, list_all}
use Rattle.zone_image.specs.Image.{Image, IsCrash, zone_at, zone_of, offset_of}
use Rattle.record_model.specs.declared.types.Extent.{Extent}
use Rattle.record_model.specs.declared.types.FileEntry.{FileEntry}
use Rattle.log_model.specs.FileTable.{Table}
use Rattle.log_model.specs.Frames.{no_active}
use Rattle.log_model.specs.Mounted.{all_extents, broken_rule}
use Rattle.log_model.specs.MountLaws.{KeepsFronts, SparseAlone}
use Rattle.crash_cover.specs.SameData.{HaveSameData, Avoids}

-- within the durable blocks of one data zone
abbrev pub is_durable : Image → Extent → Bool
is_durable i x =
    nat_le 3 (zone_of i.geometry x.start) && nat_lt (zone_of i.geometry x.start) i.geometry.zones
    && nat_le (offset_of i.geometry x.start + x.len) ((zone_at i (zone_of i.geometry x.start)).kept * i.geometry.block)

-- the start of a block of a data zone, from the first to the one behind the last durable one
abbrev pub is_durable_point : Image → ℕ → Bool
is_durable_point i start =
    nat_le 3 (zone_of i.geometry start) && nat_lt (zone_of i.geometry start) i.geometry.zones
    && (offset_of i.geometry start % i.geometry.block == 0)
    && nat_le (offset_of i.geometry start) ((zone_at i (zone_of i.geometry start)).kept * i.geometry.block)

-- an entry whose recovery point, if it has any, is such a one
abbrev pub has_durable_point : Image → FileEntry → Bool
has_durable_point i e = (e.active == no_active) || is_durable_point i e.active

-- each extent and each recovery point is durable, only sparse files have recovery points, and no rule is broken
pub record IsPinned (i : Image) (es : Table) : Type 0 where
  pub extents : list_all (is_durable i) (all_extents es) ≡ true
  pub points : list_all (has_durable_point i) es ≡ true
  pub sparse : AllByRecursion SparseAlone es
  pub unbroken : broken_rule i es ≡ None

-- an image of which each zone keeps first blocks, all durable ones among them
pub record KeepsDurable (i j : Image) : Type 0 where
  pub fronts : KeepsFronts i j
  pub enough : (n : ℕ) → (zone_at i n).kept ≤ length (zone_at j n).blocks

-- a crash keeps the durable blocks
abbrev pub CrashKeepsDurable : Type 0
CrashKeepsDurable = (i j : Image) → IsCrash i j → KeepsDurable i j

-- a table whose extents are durable breaks no rule where they are kept
abbrev pub PinnedTableStays : Type 0
PinnedTableStays = (i j : Image) (es : Table) → 0 < i.geometry.block → KeepsDurable i j → IsPinned i es → broken_rule j es ≡ None

-- a pinned table is pinned in an image that differs only where it has nothing
abbrev pub PinnedIsKept : Type 0
PinnedIsKept = (changed : ℕ → Bool) (i j : Image) (es : Table) → HaveSameData changed i j → Avoids changed i.geometry es → IsPinned i es → IsPinned j es

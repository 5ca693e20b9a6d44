-- Extents one behind the other.
use Rattle.std.specs.Prelude.{ℕ, ◌+◌, ◌<◌, ◌≤◌, List, slice_index_or}
use Rattle.record_model.specs.declared.types.Extent.{Extent}

-- an extent of a list, by number
abbrev pub extent_at : List Extent → ℕ → Extent
extent_at xs i = slice_index_or xs i (record { start = 0; len = 0 })

-- the second begins before the end of the first
abbrev pub Reaches : Extent → Extent → Type 0
Reaches x y = y.start < x.start + x.len

-- the second begins at the end of the first or behind it
abbrev pub IsBehind : Extent → Extent → Type 0
IsBehind x y = x.start + x.len ≤ y.start

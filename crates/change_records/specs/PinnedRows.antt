-- Changes of names add no extent, and leave pinned what was pinned.
use Rattle.std.specs.Prelude.{◌≡◌, ◌⊎◌, ℕ, Bool, List, [], ◌∷◌, ◌++◌}
use Rattle.zone_image.specs.Image.{Image}
use Rattle.record_model.specs.declared.types.Extent.{Extent}
use Rattle.log_model.specs.Mounted.{all_extents}
use Rattle.fs_model.specs.FsState.{TableRow, on_row}
use Rattle.fs_model.specs.TreeSteps.{new_entry, new_row, with_names, drop_name}
use Rattle.crash_cover.specs.Pinned.{IsPinned}
use Rattle.change_records.specs.Recorded.{entries}
use Rattle.change_records.specs.NameRecords.{rows_renamed}

-- the first extents are some of the second ones, in their order
abbrev pub AreSomeOf : List Extent → List Extent → Type 0
AreSomeOf some [] = some ≡ []
AreSomeOf some (x ∷ xs) = AreSomeOf some xs ⊎ ((rest : List Extent) × (some ≡ x ∷ rest) × AreSomeOf rest xs)

-- rows after which no extent is recorded that wasn't before, and that are pinned where those before were
pub record AddsNoExtent (rows after : List TableRow) : Type 0 where
  pub extents : AreSomeOf (all_extents (entries after)) (all_extents (entries rows))
  pub pinned : (i : Image) → IsPinned i (entries rows) → IsPinned i (entries after)

-- a new file has no extent and no recovery point
abbrev pub CreateAddsNoExtent : Type 0
CreateAddsNoExtent = (rows : List TableRow) (id : ℕ) (name : List ℕ) (hint : ℕ) (sparse : Bool) (now : ℕ)
    → AddsNoExtent rows (rows ++ new_row (new_entry id name hint sparse now) ∷ [])

-- other names of a file, as after a link, change neither
abbrev pub NamesAddNoExtent : Type 0
NamesAddNoExtent = (rows : List TableRow) (id : ℕ) (names : List (List ℕ)) → AddsNoExtent rows (on_row id (with_names names) rows)

-- a rename at most takes a file away
abbrev pub RenameAddsNoExtent : Type 0
RenameAddsNoExtent = (rows : List TableRow) (r : TableRow) (old new : List ℕ) → AddsNoExtent rows (rows_renamed rows r old new)

-- so does a deletion
abbrev pub UnlinkAddsNoExtent : Type 0
UnlinkAddsNoExtent = (rows : List TableRow) (name : List ℕ) → AddsNoExtent rows (drop_name name rows)

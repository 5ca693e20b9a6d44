-- The table that a mount for writing records: with the extents that are found again, and without recovery points.
use Rattle.std.specs.Prelude.{◌≡◌, ℕ, map}
use Rattle.zone_image.specs.Image.{Image}
use Rattle.record_model.specs.declared.types.FileEntry.{FileEntry}
use Rattle.log_model.specs.LogSelection.{LogAt}
use Rattle.log_model.specs.FileTable.{Table}
use Rattle.log_model.specs.Frames.{no_active}
use Rattle.log_model.specs.Mounted.{recovered_entry, tree_of}
use Rattle.log_model.specs.TableLaws.{IsTable, AreSized}
use Rattle.log_model.specs.CrashLaws.{IsDurable}
use Rattle.crash_cover.specs.Pinned.{IsPinned}
use Rattle.crash_cover.specs.AtRest.{IsAtRest}

-- the entry without a recovery point
abbrev pub without_point : FileEntry → FileEntry
without_point e = record e { active = no_active }

-- the entries with what is found again, and without recovery points
abbrev pub settled : Image → Table → Table
settled i es = map without_point (map (recovered_entry i) es)

-- the settled table is a pinned table with right sizes, and mounts to the tree that the table mounts to
pub record IsSettled (i : Image) (es : Table) : Type 0 where
  pub pinned : IsPinned i (settled i es)
  pub table : IsTable (settled i es)
  pub sized : AreSized (settled i es)
  pub tree : tree_of i (settled i es) ≡ tree_of i (map (recovered_entry i) es)
  pub mounts : tree_of i (map (recovered_entry i) (settled i es)) ≡ tree_of i (map (recovered_entry i) es)

-- where nothing is pending, the table of an image at rest may be settled
abbrev pub SettledTable : Type 0
SettledTable = (i : Image) (log : LogAt) (greatest : ℕ) (es : Table) → IsAtRest i log greatest es → ((n : ℕ) → IsDurable i n) → IsSettled i es

-- Images with the same data zones, but for some that a table doesn't read.
use Rattle.std.specs.Prelude.{◌≡◌, ◌≢◌, ℕ, ◌≤◌, Bool, false, map}
use Rattle.std.specs.List.{AllByRecursion}
use Rattle.zone_image.specs.declared.Geometry.{Geometry}
use Rattle.zone_image.specs.Image.{Image, zone_at, zone_of}
use Rattle.record_model.specs.declared.types.FileEntry.{FileEntry}
use Rattle.log_model.specs.FileTable.{Table}
use Rattle.log_model.specs.Frames.{no_active}
use Rattle.log_model.specs.Mounted.{all_extents, broken_rule, recovered_entry}

-- the same data zones with no fewer durable blocks, but for zones in which something changed
pub record HaveSameData (changed : ℕ → Bool) (i j : Image) : Type 0 where
  pub geometry : j.geometry ≡ i.geometry
  pub blocks : (n : ℕ) → 3 ≤ n → changed n ≡ false → (zone_at j n).blocks ≡ (zone_at i n).blocks
  pub kept : (n : ℕ) → 3 ≤ n → changed n ≡ false → (zone_at i n).kept ≤ (zone_at j n).kept

-- a file that has a recovery point has it in a zone where nothing changed
abbrev pub RecoversElsewhere : (ℕ → Bool) → Geometry → FileEntry → Type 0
RecoversElsewhere changed g e = e.active ≢ no_active → changed (zone_of g e.active) ≡ false

-- no extent and no recovery point of the table lies in a zone where something changed
pub record Avoids (changed : ℕ → Bool) (g : Geometry) (es : Table) : Type 0 where
  pub extents : AllByRecursion (λ x. changed (zone_of g x.start) ≡ false) (all_extents es)
  pub points : AllByRecursion (RecoversElsewhere changed g) es

-- the table breaks the same rule, and the same extents of its files are found again
pub record ReadsAlike (i j : Image) (es : Table) : Type 0 where
  pub rule : broken_rule j es ≡ broken_rule i es
  pub found : map (recovered_entry j) es ≡ map (recovered_entry i) es

-- a table reads the same in images that differ only where it has nothing
abbrev pub DataDecidesTable : Type 0
DataDecidesTable = (changed : ℕ → Bool) (i j : Image) (es : Table) → HaveSameData changed i j → Avoids changed i.geometry es → ReadsAlike i j es

-- The state of a device over an image file, and what it tells.
use Rattle.std.specs.Prelude.{◌≡◌, ℕ, ◌≤◌, false, List, [], Option, None, Some}
use Rattle.zone_image.specs.declared.Geometry.{Geometry}
use Rattle.zone_image.specs.declared.ZoneInfo.{ZoneInfo}
use Rattle.zone_image.specs.Infos.{IsPossible}
use Rattle.zone_image.specs.Counts.{next_count}
use Rattle.zoned_device.specs.declared.error.MakeError.{MakeError}
use Rattle.zoned_device.specs.declared.error.MakeError.TheVariants as make_error
use Rattle.image_backend.specs.declared.byte_file.SetLenError.{SetLenError}
use Rattle.image_backend.specs.declared.byte_file.SetLenError.TheVariants as len_error
use Rattle.image_backend.specs.declared.counts.Counts.{Counts}
use Rattle.image_backend.specs.Format.{image_bytes}
use Rattle.image_backend.specs.Table.{TableState, table_infos, IsTable}

-- the file, what is known of the image, if anything is, and the counts
pub record ImageState (F : Type 0) : Type 0 where
  pub file : F
  pub table : Option TableState
  pub counts : Counts

-- what stands for the geometry where none is known
abbrev pub no_geometry : Geometry
no_geometry = record { block = 0; zone_blocks = 0; capacity = 0; zones = 0; active_limit = 0 }

abbrev pub geometry_in : Option TableState → Geometry
geometry_in None = no_geometry
geometry_in (Some t) = t.geometry

abbrev pub infos_in : Option TableState → List ZoneInfo
infos_in None = []
infos_in (Some t) = table_infos t

-- the file is open, and long enough for the zones of the table
pub record HoldsZones {F : Type 0} (is_open is_sized : F → Type 0) (size : F → ℕ) (g : Geometry) (file : F) : Type 0 where
  pub opened : is_open file
  pub known : is_sized file
  pub long : image_bytes g ≤ size file

-- the table is possible, and the file holds its zones
pub record HoldsTable {F : Type 0} (is_open is_sized : F → Type 0) (size : F → ℕ) (t : TableState) (file : F) : Type 0 where
  pub table : IsTable t
  pub zones : HoldsZones is_open is_sized size t.geometry file

abbrev pub IsKnown : {F : Type 0} → (F → Type 0) → (F → Type 0) → (F → ℕ) → Option TableState → F → Type 0
IsKnown is_open is_sized size None file = ⊥
IsKnown is_open is_sized size (Some t) file = HoldsTable is_open is_sized size t file

-- what is known of an image is held by the file
abbrev pub IsHeld : {F : Type 0} → (F → Type 0) → (F → Type 0) → (F → ℕ) → Option TableState → F → Type 0
IsHeld is_open is_sized size None file = Unit {0}
IsHeld is_open is_sized size (Some t) file = HoldsTable is_open is_sized size t file

-- what a known device tells of its zones is possible
pub known_possible : {F : Type 0} (is_open is_sized : F → Type 0) (size : F → ℕ) (table : Option TableState) (file : F) → IsKnown is_open is_sized size table file
    → IsPossible (geometry_in table) (infos_in table)
known_possible is_open is_sized size None file none = absurd none
known_possible is_open is_sized size (Some t) file is = is.table.possible

-- the counts at the begin
abbrev pub no_counts : Counts
no_counts = record { broken = false; faults = 0; failed_changes = 0 }

-- after a call that failed
abbrev pub fault_counted : Counts → Counts
fault_counted c = record c { faults = next_count c.faults }

-- after a change that failed
abbrev pub change_counted : Counts → Counts
change_counted c = record c { faults = next_count c.faults; failed_changes = next_count c.failed_changes }

-- why a length can't be set is why an image can't be made
abbrev pub IsSame : SetLenError → MakeError → Type 0
IsSame len_error.Failed e = e ≡ make_error.Failed
IsSame len_error.NoMemory e = e ≡ make_error.NoMemory

-- The state of a device over an image file, and what it tells.
use Rattle.std.specs.Prelude.{◌≡◌, ℕ, ◌<◌, ◌≤◌, Bool, true, false, not, ◌&&◌, ◌==◌, cond, List, [], length, drop, Option, None, Some}
use Rattle.zone_image.specs.declared.Geometry.{Geometry}
use Rattle.zone_image.specs.declared.ZoneInfo.{ZoneInfo}
use Rattle.zone_image.specs.Image.{Image}
use Rattle.zone_image.specs.Infos.{IsPossible}
use Rattle.zone_image.specs.Counts.{next_count}
use Rattle.zoned_device.specs.declared.error.MakeError.{MakeError}
use Rattle.zoned_device.specs.declared.error.MakeError.TheVariants as make_error
use Rattle.image_backend.specs.declared.byte_file.SetLenError.{SetLenError}
use Rattle.image_backend.specs.declared.byte_file.SetLenError.TheVariants as len_error
use Rattle.image_backend.specs.ImageState.{no_geometry}
use Rattle.image_backend.specs.Table.{TableState, slot_at, slot_info, table_infos, IsTable}
use Rattle.power_image.specs.declared.counts.Counts.{Counts}
use Rattle.power_image.specs.Layout.{zones_at, image_bytes}
use Rattle.power_image.specs.Descriptors.{told, next_slot, prepared, opened}
use Rattle.power_image.specs.Table.{Known, descriptor_in, with_descriptor, image_in, Describes}

-- the file, what is known of the image, if anything is, and the counts
pub record PowerState (F : Type 0) : Type 0 where
  pub file : F
  pub table : Option Known
  pub counts : Counts

abbrev pub geometry_in : Option Known → Geometry
geometry_in None = no_geometry
geometry_in (Some k) = k.zones.geometry

abbrev pub infos_in : Option Known → List ZoneInfo
infos_in None = []
infos_in (Some k) = table_infos k.zones

-- the file is open, and long enough for the zones of this geometry
pub record HoldsZones {F : Type 0} (is_open is_sized : F → Type 0) (size : F → ℕ) (g : Geometry) (file : F) : Type 0 where
  pub opened : is_open file
  pub known : is_sized file
  pub long : image_bytes g ≤ size file

-- what is known is possible, each zone has a descriptor, and the file holds the zones
pub record HoldsTable {F : Type 0} (is_open is_sized : F → Type 0) (size : F → ℕ) (k : Known) (file : F) : Type 0 where
  pub table : IsTable k.zones
  pub count : length k.descriptors ≡ k.zones.geometry.zones
  pub zones : HoldsZones is_open is_sized size k.zones.geometry file

abbrev pub IsKnown : {F : Type 0} → (F → Type 0) → (F → Type 0) → (F → ℕ) → Option Known → F → Type 0
IsKnown is_open is_sized size None file = ⊥
IsKnown is_open is_sized size (Some k) file = HoldsTable is_open is_sized size k file

-- what is known of an image is held by the file
abbrev pub IsHeld : {F : Type 0} → (F → Type 0) → (F → Type 0) → (F → ℕ) → Option Known → F → Type 0
IsHeld is_open is_sized size None file = Unit {0}
IsHeld is_open is_sized size (Some k) file = HoldsTable is_open is_sized size k file

-- a file that tells its bytes says what is known of its descriptors
abbrev pub IsSaid : Type 0 → Known → List ℕ → Type 0
IsSaid tells k bytes = tells → Describes bytes k.zones.geometry k.descriptors

-- the same where zones are known, unless a change of descriptors failed
abbrev pub IsSaidIn : Type 0 → Bool → Option Known → List ℕ → Type 0
IsSaidIn tells broken None bytes = Unit {0}
IsSaidIn tells broken (Some k) bytes = broken ≡ false → IsSaid tells k bytes

-- the bytes of the zones are the same, and the length
pub record SameZones (g : Geometry) (old new : List ℕ) : Type 0 where
  pub zones : drop (zones_at g) new ≡ drop (zones_at g) old
  pub long : length new ≡ length old

-- two seals are the same
abbrev pub same_seal : Bool → Bool → Bool
same_seal a b = cond a b (not b)

-- a zone's descriptor tells other numbers than the zone has
abbrev pub is_pending : Known → ℕ → Bool
is_pending k zone =
    not (((told (descriptor_in k zone)).written == (slot_at k.zones zone).written) && same_seal (told (descriptor_in k zone)).sealed (slot_at k.zones zone).sealed)

-- with what is to count next behind the other gate of a zone, where the zone is pending
abbrev pub with_prepared : Known → ℕ → Known
with_prepared k zone = cond (is_pending k zone) (with_descriptor k zone (prepared (slot_info (slot_at k.zones zone)) (descriptor_in k zone))) k

-- with that gate opened, where the zone is pending
abbrev pub with_opened : Known → ℕ → Known
with_opened k zone = cond (is_pending k zone) (with_descriptor k zone (opened (descriptor_in k zone))) k

-- the descriptors tell the same numbers
abbrev pub TellsSame : Known → Known → Type 0
TellsSame old new = (n : ℕ) → told (descriptor_in new n) ≡ told (descriptor_in old n)

-- the gate of the other slot is closed in each zone of a range
abbrev pub AreClosed : Known → ℕ → ℕ → Type 0
AreClosed k from to = (n : ℕ) → from ≤ n → n < to → (descriptor_in k n).other_open ≡ false

-- the other slot of each pending zone of a range has what is to count next
abbrev pub ArePrepared : Known → ℕ → ℕ → Type 0
ArePrepared k from to = (n : ℕ) → from ≤ n → n < to → is_pending k n ≡ true → (descriptor_in k n).other ≡ next_slot (descriptor_in k n) (slot_info (slot_at k.zones n))

-- no zone of a range is pending
abbrev pub AreSettled : Known → ℕ → ℕ → Type 0
AreSettled k from to = (n : ℕ) → from ≤ n → n < to → is_pending k n ≡ false

-- what a known device tells of its zones is possible
pub known_possible : {F : Type 0} (is_open is_sized : F → Type 0) (size : F → ℕ) (table : Option Known) (file : F) → IsKnown is_open is_sized size table file
    → IsPossible (geometry_in table) (infos_in table)
known_possible is_open is_sized size None file none = absurd none
known_possible is_open is_sized size (Some k) file is = is.table.possible

-- the counts at the begin
abbrev pub no_counts : Counts
no_counts = record { broken = false; faults = 0; failed_changes = 0 }

-- after a call that failed
abbrev pub fault_counted : Counts → Counts
fault_counted c = record c { faults = next_count c.faults }

-- after a change that failed
abbrev pub change_counted : Counts → Counts
change_counted c = record c { faults = next_count c.faults; failed_changes = next_count c.failed_changes }

-- why a length can't be set is why an image can't be made
abbrev pub IsSame : SetLenError → MakeError → Type 0
IsSame len_error.Failed e = e ≡ make_error.Failed
IsSame len_error.NoMemory e = e ≡ make_error.NoMemory

-- what is left of the numbers of the zones, and of the image where the file tells it
pub record Leaves (tells : Type 0) (wanted : TableState) (wanted_image : Image) (zones : TableState) (bytes : List ℕ) : Type 0 where
  pub numbers : zones ≡ wanted
  pub image : tells → image_in zones bytes ≡ wanted_image

-- What is true of the tables of every mounted file system, whatever its image has: rules that each step of the model keeps.
use Rattle.std.specs.Prelude.{◌≡◌, ℕ, ◌+◌, ◌*◌, ◌-◌, ◌^◌, ◌<◌, ◌≤◌, ⊤, Bool, true, false, not, ◌&&◌, List, [], ◌∷◌, length, nat_le, ◌==◌, if◌then◌else◌, IsTrue}
use Rattle.std.specs.List.{AllByRecursion}
use Rattle.zone_image.specs.declared.Geometry.{Geometry}
use Rattle.zone_image.specs.Image.{is_valid, zone_of, offset_of}
use Rattle.record_model.specs.Grammar.{IsExtent}
use Rattle.record_model.specs.declared.types.Extent.{Extent}
use Rattle.log_model.specs.FileTable.{Table, size_of}
use Rattle.log_model.specs.Frames.{no_active}
use Rattle.log_model.specs.Mounted.{all_extents, overlap}
use Rattle.fs_model.specs.declared.zones.Owner.{Owner}
use Rattle.fs_model.specs.declared.zones.Owner.TheVariants.{Writer, Collector, Victim}
use Rattle.fs_model.specs.ZonePolicy.{is_idle_owner}
use Rattle.fs_model.specs.FsState.{FsState, TableRow, ZoneDescriptor, working_of, descriptor_in}
use Rattle.fs_model.specs.Untouched.{is_one_of}
use Rattle.change_records.specs.Recorded.{entries, AreValid}
use Rattle.change_records.specs.Writable.{AreWritable}

-- ---- a file

-- the first of these extents, as far as their sum is no more than this
abbrev pub found_within : ℕ → List Extent → List Extent
found_within n [] = []
found_within n (x ∷ xs) = if nat_le x.len n then x ∷ found_within (n - x.len) xs else []

-- a sparse file with a recovery point finds its frames again
abbrev pub finds_again : TableRow → Bool
finds_again r = r.entry.sparse && not (r.entry.active == no_active)

-- of the extents that aren't recorded, those that are shown: a crash finds them again
abbrev pub found_of : TableRow → List Extent
found_of r = if finds_again r then found_within (r.shown - r.entry.size) r.unrecorded else []

-- each extent ends at or before the next one
abbrev pub AreOrdered : List Extent → Type 0
AreOrdered [] = ⊤
AreOrdered (x ∷ []) = ⊤
AreOrdered (x ∷ y ∷ ys) = (x.start + x.len ≤ y.start) × AreOrdered (y ∷ ys)

-- what isn't recorded of a file can be, and stands in order; what is shown is recorded or found again
pub record RowRules (r : TableRow) : Type 0 where
  pub extents : AllByRecursion IsExtent r.unrecorded
  pub fits : r.entry.size + size_of r.unrecorded < 2 ^ 64
  pub ordered : AreOrdered r.unrecorded
  pub shown : r.shown ≡ r.entry.size + size_of (found_of r)

-- ---- all files

-- an extent has a byte, and lies in the part of one data zone that may be written
pub record LiesInZone (g : Geometry) (x : Extent) : Type 0 where
  pub low : 3 ≤ zone_of g x.start
  pub high : zone_of g x.start < g.zones
  pub some : 0 < x.len
  pub within : offset_of g x.start + x.len ≤ g.capacity * g.block

-- no id is above the greatest; each extent lies in one data zone, and no two share a byte
pub record FileRules (g : Geometry) (greatest : ℕ) (rows : List TableRow) : Type 0 where
  pub each : AllByRecursion RowRules rows
  pub ids : AllByRecursion (λ r. r.entry.id ≤ greatest) rows
  pub lie : AllByRecursion (LiesInZone g) (all_extents (working_of rows))
  pub apart : overlap (all_extents (working_of rows)) ≡ false

-- ---- zones

-- who holds a zone
abbrev pub owner_in : List ZoneDescriptor → ℕ → Owner
owner_in zones n = (descriptor_in zones n).owner

-- only one zone has this owner
abbrev pub IsOnlyOne : Owner → List ZoneDescriptor → Type 0
IsOnlyOne owner zones = (n m : ℕ) → owner_in zones n ≡ owner → owner_in zones m ≡ owner → n ≡ m

-- only data zones are held; a writer is open and holds one at most, and the collector at most one to copy to and one to empty
pub record OwnerRules (zones : List ZoneDescriptor) (writers : List ℕ) : Type 0 where
  pub held : (n : ℕ) → is_idle_owner (owner_in zones n) ≡ false → 3 ≤ n
  pub writer : (id n : ℕ) → owner_in zones n ≡ Writer id → is_one_of writers id ≡ true
  pub only : (id : ℕ) → IsOnlyOne (Writer id) zones
  pub collector : IsOnlyOne Collector zones
  pub victim : IsOnlyOne Victim zones

-- ---- what isn't recorded

-- extents that are recorded in a zone end at or before this address of it
abbrev pub EndBefore : Geometry → ℕ → Table → Type 0
EndBefore g start es = AllByRecursion (λ y. zone_of g y.start ≡ zone_of g start → y.start + y.len ≤ start) (all_extents es)

-- an extent that isn't recorded lies in the zone of its file's writer, behind all that is recorded there
pub record IsFresh (g : Geometry) (zones : List ZoneDescriptor) (es : Table) (id : ℕ) (x : Extent) : Type 0 where
  pub owner : owner_in zones (zone_of g x.start) ≡ Writer id
  pub behind : EndBefore g x.start es

-- so of all files
abbrev pub FreshRules : Geometry → List ZoneDescriptor → Table → List TableRow → Type 0
FreshRules g zones es rows = AllByRecursion (λ r. AllByRecursion (IsFresh g zones es r.entry.id) r.unrecorded) rows

-- ---- a state

-- the device has these zones, and the log is in one of metadata
pub record DeviceRules (s : FsState) : Type 0 where
  pub valid : IsTrue (is_valid s.geometry)
  pub count : length s.zones ≡ s.geometry.zones
  pub log_zone : s.log.zone < 3
  pub flags : s.log.superblock.flags ≤ 3

-- the rules of a state
pub record KeepsRules (s : FsState) : Type 0 where
  pub device : DeviceRules s
  pub valid : AreValid s.rows
  pub writable : AreWritable s.rows
  pub files : FileRules s.geometry s.greatest s.rows
  pub owners : OwnerRules s.zones s.writers
  pub fresh : FreshRules s.geometry s.zones (entries s.rows) s.rows

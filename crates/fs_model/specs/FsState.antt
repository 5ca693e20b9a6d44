-- The state of a file system: its zones, its files, and its log.
use Rattle.std.specs.Prelude.{ℕ, zero, suc, ◌+◌, ◌*◌, ◌-◌, ◌/◌, ◌%◌, ◌^◌, Bool, true, ◌&&◌, List, [], ◌∷◌, ◌++◌, length, map, filter, flat_map, Option, Some, None, Result, Ok, nat_lt, ◌==◌, if◌then◌else◌, sum_by}
use Rattle.std.specs.List.{enumerate_from}
use Rattle.zone_image.specs.declared.Geometry.{Geometry}
use Rattle.zone_image.specs.Image.{Image, Zone, zone_of, address_of}
use Rattle.record_model.specs.declared.types.Extent.{Extent}
use Rattle.record_model.specs.declared.types.FileEntry.{FileEntry}
use Rattle.log_model.specs.declared.selection.Chosen.{Chosen}
use Rattle.log_model.specs.declared.selection.Refusal.{Refusal}
use Rattle.record_model.specs.FieldDecoding as decoding
use Rattle.log_model.specs.FileTable.{Table, size_of, is_among}
use Rattle.log_model.specs.LogSelection.{selected_log}
use Rattle.log_model.specs.Mounted.{table_in}
use Rattle.zone_image.specs.declared.ZoneInfo.{ZoneInfo}
use Rattle.fs_model.specs.declared.zones.Owner.{Owner}
use Rattle.fs_model.specs.declared.zones.Owner.TheVariants.{Idle}
use Rattle.fs_model.specs.declared.zones.ZoneState.{ZoneState}

-- a zone with its owner and its hint
pub record ZoneDescriptor : Type 0 where
  pub info : ZoneInfo
  pub owner : Owner
  pub hint : ℕ

-- a file: its recorded entry, its extents that aren't recorded yet, and how many of its bytes are shown to readers
pub record TableRow : Type 0 where
  pub entry : FileEntry
  pub unrecorded : List Extent
  pub shown : ℕ

-- a file system: geometry, zones, files, the greatest id since the mount, ids with a writer, and the log
pub record FsState : Type 0 where
  pub geometry : Geometry
  pub zones : List ZoneDescriptor
  pub rows : List TableRow
  pub greatest : ℕ
  pub writers : List ℕ
  pub log : Chosen

-- the entry with all its extents
abbrev pub working_entry : TableRow → FileEntry
working_entry r = record (r.entry) { extents = r.entry.extents ++ r.unrecorded; size = r.entry.size + size_of r.unrecorded }

-- the table of these rows, with what isn't recorded
abbrev pub working_of : List TableRow → Table
working_of rows = map working_entry rows

-- the table in memory
abbrev pub working : FsState → Table
working s = working_of s.rows

-- the table that a snapshot has: of each file what is recorded
abbrev pub recorded : FsState → Table
recorded s = map (λ r. r.entry) s.rows

-- what stands for a zone that isn't there
abbrev pub no_descriptor : ZoneDescriptor
no_descriptor = record { info = record { written = 0; sealed = true }; owner = Idle; hint = 0 }

-- a zone of a list, by number
abbrev pub descriptor_in : List ZoneDescriptor → ℕ → ZoneDescriptor
descriptor_in [] n = no_descriptor
descriptor_in (z ∷ zs) zero = z
descriptor_in (z ∷ zs) (suc n) = descriptor_in zs n

-- a zone of a state, by number
abbrev pub descriptor_at : FsState → ℕ → ZoneDescriptor
descriptor_at s n = descriptor_in s.zones n

-- changes the zone of this number
abbrev pub on_descriptor : ℕ → (ZoneDescriptor → ZoneDescriptor) → List ZoneDescriptor → List ZoneDescriptor
on_descriptor n f [] = []
on_descriptor zero f (z ∷ zs) = f z ∷ zs
on_descriptor (suc n) f (z ∷ zs) = z ∷ on_descriptor n f zs

-- the blocks that an extent touches
abbrev pub touched : ℕ → Extent → ℕ
touched block x = (x.start + x.len - 1) / block - x.start / block + 1

-- all extents that lie in a zone
abbrev pub extents_in : FsState → ℕ → List Extent
extents_in s zone = filter (λ x. zone_of s.geometry x.start == zone) (flat_map (λ e. e.extents) (working s))

-- a zone as the policy sees it, its live blocks and bytes summed over all files
abbrev pub state_of : FsState → ℕ × ZoneDescriptor → ZoneState
state_of s z = record {
  info = z.1.info;
  owner = z.1.owner;
  hint = z.1.hint;
  live = sum_by (touched s.geometry.block) (extents_in s z.0);
  live_bytes = size_of (extents_in s z.0);
}

-- the zones as the policy sees them
abbrev pub zone_states : FsState → List ZoneState
zone_states s = map (state_of s) (enumerate_from 0 s.zones)

-- whether collection is on
abbrev pub collects : FsState → Bool
collects s = s.log.superblock.flags % 2 == 1

-- blocks that a zone may still take
abbrev pub descriptor_room : ℕ → ZoneDescriptor → ℕ
descriptor_room capacity z = if z.info.sealed then 0 else capacity - z.info.written

-- blocks that a zone of a state may still take
abbrev pub room_in : FsState → ℕ → ℕ
room_in s zone = descriptor_room s.geometry.capacity (descriptor_at s zone)

-- the address of the next block of a zone
abbrev pub next_address : FsState → ℕ → ℕ
next_address s zone = address_of s.geometry zone ((descriptor_at s zone).info.written * s.geometry.block)

-- the row of an id
abbrev pub row_of : ℕ → List TableRow → Option TableRow
row_of id [] = None
row_of id (r ∷ rs) = if r.entry.id == id then Some r else row_of id rs

-- the row of a name
abbrev pub row_named : List ℕ → List TableRow → Option TableRow
row_named name [] = None
row_named name (r ∷ rs) = if is_among r.entry.names name then Some r else row_named name rs

-- changes the row of an id
abbrev pub on_row : ℕ → (TableRow → TableRow) → List TableRow → List TableRow
on_row id f rs = map (λ r. if r.entry.id == id then f r else r) rs

-- ---- the state of an image that was mounted

-- the greatest id of a table
abbrev pub greatest_id : Table → ℕ
greatest_id [] = 0
greatest_id (e ∷ es) = if nat_lt e.id (greatest_id es) then greatest_id es else e.id

-- the lowest start of the extents that lie in a zone
abbrev pub lowest_start : Geometry → ℕ → List Extent → ℕ
lowest_start g zone [] = 2 ^ 64
lowest_start g zone (x ∷ xs) =
    if (zone_of g x.start == zone) && nat_lt x.start (lowest_start g zone xs) then x.start else lowest_start g zone xs

-- the hint of the file whose live extent stands first in the zone, and 0 where there is none
abbrev pub hint_from : Geometry → ℕ → ℕ → ℕ → Table → ℕ
hint_from g zone start hint [] = hint
hint_from g zone start hint (e ∷ es) =
    if nat_lt (lowest_start g zone e.extents) start then hint_from g zone (lowest_start g zone e.extents) e.hint es
    else hint_from g zone start hint es

-- a zone of an image that was mounted; nobody holds it
abbrev pub mounted_descriptor : Geometry → Table → ℕ × Zone → ZoneDescriptor
mounted_descriptor g es z = record {
  info = record { written = length z.1.blocks; sealed = z.1.sealed };
  owner = Idle;
  hint = hint_from g z.0 (2 ^ 64) 0 es;
}

-- a file of an image that was mounted; all its bytes are shown
abbrev pub mounted_row : FileEntry → TableRow
mounted_row e = record { entry = e; unrecorded = []; shown = e.size }

-- the state of an image with this table and this log
abbrev pub state_with : Image → Table → Chosen → FsState
state_with i es log = record {
  geometry = i.geometry;
  zones = map (mounted_descriptor i.geometry es) (enumerate_from 0 i.zones);
  rows = map mounted_row es;
  greatest = greatest_id es;
  writers = [];
  log = log;
}

-- the state of an image that mounts, or the refusal
abbrev pub state_in : Image → Result FsState Refusal
state_in i = decoding.◌>>=◌ (table_in i) (λ es. decoding.◌>>=◌ (selected_log i) (λ log. Ok (state_with i es log)))

-- What is known of the zones of an image file.
use Rattle.std.specs.Prelude.{ℕ, ◌+◌, ◌≤◌, true, false, ◌||◌, List, map, replicate, ◌==◌, All, slice_index_or, slice_set}
use Rattle.zone_image.specs.declared.Geometry.{Geometry}
use Rattle.zone_image.specs.declared.ZoneInfo.{ZoneInfo}
use Rattle.zone_image.specs.Infos.{IsPossible}
use Rattle.image_backend.specs.declared.table.Slot.{Slot}
use Rattle.image_backend.specs.Format.{info_in, geometry_of, descriptors_in}

-- the geometry, and for each zone its written blocks, its durable ones and its seal
pub record TableState : Type 0 where
  pub geometry : Geometry
  pub slots : List Slot

-- what is told of a zone
abbrev pub slot_info : Slot → ZoneInfo
slot_info s = record { written = s.written; sealed = s.sealed }

-- what is told of all zones
abbrev pub table_infos : TableState → List ZoneInfo
table_infos t = map slot_info t.slots

-- an empty zone
abbrev pub no_slot : Slot
no_slot = record { written = 0; kept = 0; sealed = false }

-- a zone as a file has it: all its blocks are durable
abbrev pub slot_of : ZoneInfo → Slot
slot_of info = record { written = info.written; kept = info.written; sealed = info.sealed }

-- a zone, by number
abbrev pub slot_at : TableState → ℕ → Slot
slot_at t zone = slice_index_or t.slots zone no_slot

-- with other numbers for one zone
abbrev pub with_slot : TableState → ℕ → Slot → TableState
with_slot t zone slot = record t { slots = slice_set t.slots zone slot }

-- a zone with so many blocks more; it is sealed once it has as many as its capacity
abbrev pub slot_appended : ℕ → ℕ → Slot → Slot
slot_appended capacity count s = record { written = s.written + count; kept = s.kept; sealed = s.sealed || (s.written + count == capacity) }

-- a sealed zone
abbrev pub slot_finished : Slot → Slot
slot_finished s = record s { sealed = true }

-- a zone whose blocks are all durable
abbrev pub slot_synced : Slot → Slot
slot_synced s = record s { kept = s.written }

-- a new image: all zones are empty
abbrev pub table_blank : Geometry → TableState
table_blank g = record { geometry = g; slots = replicate g.zones no_slot }

-- all blocks are durable
abbrev pub table_synced : TableState → TableState
table_synced t = record t { slots = map slot_synced t.slots }

-- a table that a device may have
pub record IsTable (t : TableState) : Type 0 where
  pub possible : IsPossible t.geometry (table_infos t)
  pub kept : All (λ s. s.kept ≤ s.written) t.slots

-- what descriptors say
abbrev pub slots_of : List (List ℕ) → List Slot
slots_of descriptors = map slot_of (map info_in descriptors)

-- the table of a geometry and its descriptors
abbrev pub table_of : Geometry → List (List ℕ) → TableState
table_of g descriptors = record { geometry = g; slots = slots_of descriptors }

-- the table of a file
abbrev pub table_in : List ℕ → TableState
table_in bytes = table_of (geometry_of bytes) (descriptors_in (geometry_of bytes) bytes)

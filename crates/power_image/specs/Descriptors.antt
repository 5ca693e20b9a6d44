-- The two slots of a zone's descriptor, and which of them counts.
use Rattle.std.specs.Prelude.{ℕ, ◌+◌, ◌*◌, ◌%◌, Bool, true, false, not, ◌&&◌, ◌||◌, List, ◌∷◌, ◌++◌, length, take, drop, map, replicate, nat_le, ◌==◌, cond, slice_index_or}
use Rattle.std.specs.List.{list_all}
use Rattle.zone_image.specs.declared.Geometry.{Geometry}
use Rattle.zone_image.specs.declared.ZoneInfo.{ZoneInfo}
use Rattle.zone_image.specs.Changes.{chunks}
use Rattle.zone_image.specs.Infos.{active_zones}
use Rattle.image_backend.specs.Format.{u32, u32_at, header_size, page, geometry_of}
use Rattle.power_image.specs.declared.descriptor.Slot.{Slot}
use Rattle.power_image.specs.declared.descriptor.Descriptor.{Descriptor}
use Rattle.power_image.specs.Layout.{slot_size, descriptor_size, is_header, image_bytes}

-- the gate of a slot that is open; any other closes it
abbrev pub open_gate : ℕ
open_gate = 165

-- whether a slot is open, and what it says
pub record Half : Type 0 where
  pub is_open : Bool
  pub slot : Slot

-- a slot is open
abbrev pub is_open : List ℕ → Bool
is_open slot = slice_index_or slot 0 0 == open_gate

-- what a slot says
abbrev pub slot_in : List ℕ → Slot
slot_in slot = record { turn = slice_index_or slot 1 0; seal = slice_index_or slot 2 0; written = u32_at 4 slot }

abbrev pub half_in : List ℕ → Half
half_in slot = record { is_open = is_open slot; slot = slot_in slot }

-- its number and seal
abbrev pub info_of : Slot → ZoneInfo
info_of s = record { written = s.written; sealed = s.seal == 1 }

-- at most as many blocks as the capacity, a seal of 0 or 1, and a seal where the zone is full
abbrev pub is_possible : Geometry → Slot → Bool
is_possible g s = nat_le s.written g.capacity && nat_le s.seal 1 && (not (s.written == g.capacity) || (s.seal == 1))

-- the turn after this one, of three
abbrev pub next_turn : ℕ → ℕ
next_turn turn = (turn + 1) % 3

-- a slot counts beside another: it is open, and where both are, its turn is the next one
abbrev pub counts : Half → Half → Bool
counts this other = this.is_open && (not other.is_open || (this.slot.turn == next_turn other.slot.turn))

-- what a descriptor says by its slot that counts
abbrev pub descriptor_of : Bool → Half → Half → Descriptor
descriptor_of second this other = record { second = second; counting = this.slot; other = other.slot; other_open = other.is_open }

-- a descriptor of these two slots is right: one of them counts and is possible
abbrev pub is_right : Geometry → Half → Half → Bool
is_right g first second = cond (counts second first) (is_possible g second.slot) (counts first second && is_possible g first.slot)

-- what a descriptor of these two slots says
abbrev pub said_by : Half → Half → Descriptor
said_by first second = cond (counts second first) (descriptor_of true second first) (descriptor_of false first second)

-- the same of a descriptor's bytes
unfoldable pub is_descriptor : Geometry → List ℕ → Bool
is_descriptor g bytes = is_right g (half_in (take slot_size bytes)) (half_in (drop slot_size bytes))

unfoldable pub said_in : List ℕ → Descriptor
said_in bytes = said_by (half_in (take slot_size bytes)) (half_in (drop slot_size bytes))

-- the bytes of a slot behind its gate
abbrev pub rest_bytes : Slot → List ℕ
rest_bytes s = s.turn ∷ s.seal ∷ 0 ∷ u32 s.written ++ replicate 8 0

-- the numbers that a descriptor tells of its zone
abbrev pub told : Descriptor → ZoneInfo
told d = info_of d.counting

-- the slot that is to count next, with other numbers
abbrev pub next_slot : Descriptor → ZoneInfo → Slot
next_slot d info = record { turn = next_turn d.counting.turn; seal = cond info.sealed 1 0; written = info.written }

-- with the gate of the other slot closed
abbrev pub closed : Descriptor → Descriptor
closed d = record d { other_open = false }

-- with other bytes behind that gate
abbrev pub prepared : ZoneInfo → Descriptor → Descriptor
prepared info d = record d { other = next_slot d info }

-- with that gate opened, so that the slot behind it counts
abbrev pub opened : Descriptor → Descriptor
opened d = record { second = not d.second; counting = d.other; other = d.counting; other_open = true }

-- the descriptor of a new zone
abbrev pub blank_bytes : List ℕ
blank_bytes = open_gate ∷ replicate 31 0

-- the descriptors of a file
abbrev pub descriptors_in : Geometry → List ℕ → List (List ℕ)
descriptors_in g bytes = chunks descriptor_size g.zones (take (g.zones * descriptor_size) (drop page bytes))

-- descriptors are right, and so is the number of active zones
abbrev pub are_possible : Geometry → List (List ℕ) → Bool
are_possible g ds = list_all (is_descriptor g) ds && nat_le (active_zones (map told (map said_in ds))) g.active_limit

-- the bytes of a file begin with a right header and are as many as it says
abbrev pub has_header : List ℕ → Bool
has_header bytes = nat_le page (length bytes) && is_header (take header_size bytes) && nat_le (image_bytes (geometry_of bytes)) (length bytes)

-- the bytes of a file hold an image: header, length and descriptors are right
abbrev pub is_image : List ℕ → Bool
is_image bytes = has_header bytes && are_possible (geometry_of bytes) (descriptors_in (geometry_of bytes) bytes)

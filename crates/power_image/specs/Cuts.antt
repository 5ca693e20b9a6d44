-- What a loss of power leaves of a change of descriptors that it cuts.
use Rattle.std.specs.Prelude.{◌≡◌, ◌⊎◌, ℕ, ◌+◌, ◌<◌, ◌≤◌, Bool, true, false, not, List, length, take, drop, map, slice_index_or}
use Rattle.zone_image.specs.declared.Geometry.{Geometry}
use Rattle.zone_image.specs.declared.ZoneInfo.{ZoneInfo}
use Rattle.zone_image.specs.Infos.{info_at, is_active_info, active_zones}
use Rattle.image_backend.specs.Contents.{SameOutside}
use Rattle.image_backend.specs.Format.{header_size}
use Rattle.power_image.specs.declared.descriptor.Descriptor.{Descriptor}
use Rattle.power_image.specs.Layout.{slot_offset, descriptor_at}
use Rattle.power_image.specs.Descriptors.{next_turn, is_possible, info_of, told, is_descriptor, said_in, descriptors_in}
use Rattle.power_image.specs.Table.{no_descriptor}

-- bytes of a descriptor of which one slot counts, and what it tells of the zone
pub record Tells (g : Geometry) (bytes : List ℕ) (info : ZoneInfo) : Type 0 where
  pub right : is_descriptor g bytes ≡ true
  pub tells : told (said_in bytes) ≡ info

-- all but the gate of the other slot is left
abbrev pub CutGate : Descriptor → List ℕ → List ℕ → Type 0
CutGate d bytes left = SameOutside (slot_offset (not d.second)) 1 bytes left

-- all but the bytes behind the gate of the other slot is left
abbrev pub CutRest : Descriptor → List ℕ → List ℕ → Type 0
CutRest d bytes left = SameOutside (slot_offset (not d.second) + 1) 15 bytes left

-- What is left of one descriptor within a change: nothing was written since all was durable; or the gate of the slot that counted
-- before was, to close it; or the bytes behind a gate that was closed; or, where the zone is being opened, the gate of the slot that
-- is to count next.
pub data Cut (g : Geometry) (opening : Bool) (d : Descriptor) (bytes left : List ℕ) : Type 0 where
  Whole : left ≡ bytes → Cut g opening d bytes left
  Closing : d.counting.turn ≡ next_turn d.other.turn → CutGate d bytes left → Cut g opening d bytes left
  Writing : d.other_open ≡ false → CutRest d bytes left → Cut g opening d bytes left
  Opening : opening ≡ true → d.other.turn ≡ next_turn d.counting.turn → is_possible g d.other ≡ true → CutGate d bytes left → Cut g opening d bytes left

-- the bytes of a zone's descriptor in a file
abbrev pub descriptor_bytes : ℕ → List ℕ → List ℕ
descriptor_bytes zone bytes = take 32 (drop (descriptor_at zone) bytes)

-- what is left of a file's header, and of each descriptor; these zones are being opened
pub record LeftOf (g : Geometry) (opening : ℕ → Bool) (ds : List Descriptor) (bytes left : List ℕ) : Type 0 where
  pub header : take header_size left ≡ take header_size bytes
  pub long : length left ≡ length bytes
  pub cut : (n : ℕ) → n < g.zones → Cut g (opening n) (slice_index_or ds n no_descriptor) (descriptor_bytes n bytes) (descriptor_bytes n left)

-- what a zone is told to be before the change, or after it where it is being opened
abbrev pub OldOrNew : Bool → Descriptor → ZoneInfo → Type 0
OldOrNew opening d info = (info ≡ told d) ⊎ ((opening ≡ true) × (info ≡ info_of d.other))

-- each zone is told as before the change or after it
pub record TellsOldOrNew (g : Geometry) (opening : ℕ → Bool) (ds : List Descriptor) (infos : List ZoneInfo) : Type 0 where
  pub count : length infos ≡ g.zones
  pub each : (n : ℕ) → n < g.zones → OldOrNew (opening n) (slice_index_or ds n no_descriptor) (info_at infos n)

-- whichever zones are told as before and which as after, no more are active than the limit
abbrev pub FitsHowever : Geometry → (ℕ → Bool) → List Descriptor → Type 0
FitsHowever g opening ds = (infos : List ZoneInfo) → TellsOldOrNew g opening ds infos → active_zones infos ≤ g.active_limit

-- what is told of the zones in the bytes of a file
abbrev pub infos_found : Geometry → List ℕ → List ZoneInfo
infos_found g bytes = map told (map said_in (descriptors_in g bytes))

-- a zone that is active before the change is so after it, and the change makes it what it is after it
pub record Grows (opening : Bool) (d : Descriptor) (after : ZoneInfo) : Type 0 where
  pub stays : is_active_info (told d) ≡ true → is_active_info after ≡ true
  pub new : opening ≡ true → info_of d.other ≡ after

-- What a device in memory holds: its image, and how it came to be.
pub use Rattle.zoned_device.specs.Change.{Change, Append, Finish, Reset, Sync, after, Passes, written_by}
use Rattle.std.specs.Prelude.{◌⊎◌, ℕ, ◌==◌, ◌+◌, ◌*◌, ◌<◌, ◌≤◌, Bool, ◌&&◌, List, [], ◌∷◌, ◌++◌, take, Option, None, Some, nat_lt, nat_le, if◌then◌else◌, is_none}
use Rattle.zone_image.specs.declared.Geometry.{Geometry}
use Rattle.zone_image.specs.Address.{device_bytes}
use Rattle.zone_image.specs.Image.{Image}
use Rattle.zone_image.specs.Infos.{IsValidImage}
use Rattle.zoned_device.specs.CallState.{CallState, fault_of, begun, change_failed}

-- a change, the tick at its begin, and the image before it
pub record Event : Type 0 where
  pub tick : ℕ
  pub image : Image
  pub change : Change

-- the image that stands, the changes that led to it, and how many of them and of their bytes are kept
pub record Content : Type 0 where
  pub standing : Image
  pub events : List Event
  pub changes : ℕ
  pub bytes : ℕ

-- the record begins anew with this image
abbrev pub begun_with : Image → Content
begun_with i = record { standing = i; events = []; changes = 0; bytes = 0 }

-- the number of changes that there is room for
abbrev pub most_changes : ℕ
most_changes = 65536

-- the number of written bytes that there is room for
abbrev pub most_bytes : Geometry → ℕ
most_bytes g = 4 * device_bytes g

-- there is room for a change more that writes so many bytes
abbrev pub room_for : Content → ℕ → Bool
room_for c bytes = nat_lt c.changes most_changes && nat_le (c.bytes + bytes) (most_bytes c.standing.geometry)

-- there is room for this change
abbrev pub has_room : Content → Change → Bool
has_room c ch = room_for c (written_by c.standing.geometry ch)

-- after a change that began at this tick
abbrev pub with_change : ℕ → Change → Content → Content
with_change tick ch c = record {
  standing = after ch c.standing;
  events = c.events ++ record { tick = tick; image = c.standing; change = ch } ∷ [];
  changes = c.changes + 1;
  bytes = c.bytes + written_by c.standing.geometry ch;
}

-- a crash since this tick and before now might have left this, by one of the changes
abbrev pub LeftBy : List Event → ℕ → ℕ → Image → Type 0
LeftBy [] since now j = ⊥
LeftBy (e ∷ es) since now j = ((since ≤ e.tick) × (e.tick < now) × Passes e.change e.image j) ⊎ LeftBy es since now j

-- whatever a crash leaves within the changes is an image that a device may have
abbrev pub AreValidMoments : List Event → Type 0
AreValidMoments [] = Unit {0}
AreValidMoments (e ∷ es) = ((j : Image) → Passes e.change e.image j → IsValidImage j) × AreValidMoments es

-- what stands is an image that a device may have, and so is whatever a crash left before
pub record IsValidContent (c : Content) : Type 0 where
  pub standing : IsValidImage c.standing
  pub moments : AreValidMoments c.events

-- all changes began before this tick
abbrev pub AllBefore : ℕ → List Event → Type 0
AllBefore now [] = Unit {0}
AllBefore now (e ∷ es) = (e.tick < now) × AllBefore now es

-- what is done of a change before it fails, if it is to fail after this part: the first blocks of an append, and
-- a finish or reset unless the part is 0
abbrev pub part_of : Option ℕ → Change → Option Change
part_of None ch = Some ch
part_of (Some n) (Append zone added) = if n == 0 then None else Some (Append zone (take n added))
part_of (Some n) (Finish zone) = if n == 0 then None else Some (Finish zone)
part_of (Some n) (Reset zone) = if n == 0 then None else Some (Reset zone)
part_of (Some n) Sync = None

-- with what is done of a change, where there is room for it
abbrev pub with_part : ℕ → Option Change → Content → Content
with_part tick None c = c
with_part tick (Some ch) c = if has_room c ch then with_change tick ch c else c

-- the content after a changing call
abbrev pub content_after : CallState → Change → Content → Content
content_after s ch c = with_part s.tick (part_of (fault_of s) ch) c

-- a changing call is done whole: it isn't to fail, and there is room
abbrev pub is_done : CallState → Change → Content → Bool
is_done s ch c = is_none (fault_of s) && has_room c ch

-- the counts after a changing call
abbrev pub calls_after : CallState → Change → Content → CallState
calls_after s ch c = if is_done s ch c then begun s else change_failed (begun s)

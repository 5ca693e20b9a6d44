-- The state of a device in memory, and what it tells.
use Rattle.std.specs.Prelude.{◌≡◌, ◌≢◌, ◌&&◌, ◌⊎◌, ℕ, List, [], Bool, true, false, Option, None, Some, is_none, if◌then◌else◌}
use Rattle.zone_image.specs.declared.Geometry.{Geometry}
use Rattle.zone_image.specs.declared.ZoneInfo.{ZoneInfo}
use Rattle.zone_image.specs.Image.{Image, IsCrash}
use Rattle.zone_image.specs.Changes.{blank}
use Rattle.zone_image.specs.Infos.{infos_of}
use Rattle.zoned_device.specs.CallState.{CallState, fault_of, begun, faulted}
use Rattle.zoned_device.specs.Change.{Change, Call, Looking, Making, Changing}
use Rattle.zoned_device.specs.Content.{Content, IsValidContent, LeftBy, AllBefore, AreValidMoments, room_for, begun_with, content_after, calls_after}

-- the image with its record, none until one is made, and the counts of the calls
pub record MemState : Type 0 where
  pub content : Option Content
  pub calls : CallState

-- what stands for the image where none is there
abbrev pub no_image : Image
no_image = record {
  geometry = record { block = 0; zone_blocks = 0; capacity = 0; zones = 0; active_limit = 0 };
  zones = [];
}

abbrev pub standing_in : Option Content → Image
standing_in None = no_image
standing_in (Some c) = c.standing

-- the image that stands
abbrev pub image_of : MemState → Image
image_of s = standing_in s.content

abbrev pub geometry_of : MemState → Geometry
geometry_of s = (image_of s).geometry

abbrev pub infos_in : MemState → List ZoneInfo
infos_in s = infos_of (image_of s)

abbrev pub tick_of : MemState → ℕ
tick_of s = s.calls.tick

abbrev pub IsThere : Option Content → Type 0
IsThere None = ⊥
IsThere (Some c) = IsValidContent c

-- an image is there
abbrev pub IsKnown : MemState → Type 0
IsKnown s = IsThere s.content

abbrev pub IsNone : Option Content → Type 0
IsNone None = Unit {0}
IsNone (Some c) = ⊥

-- no image is there
abbrev pub IsAbsent : MemState → Type 0
IsAbsent s = IsNone s.content

abbrev pub LeftOf : Option Content → ℕ → ℕ → Image → Type 0
LeftOf None now t j = ⊥
LeftOf (Some c) now t j = IsCrash c.standing j ⊎ LeftBy c.events t now j

-- what a crash since this tick might have left: a crash of the image that stands, or of one that was passed
abbrev pub since_of : MemState → ℕ → Image → Type 0
since_of s t j = LeftOf s.content (tick_of s) t j

-- the kept changes began before this tick, and whatever a crash left within them is an image that a device may have
abbrev pub HoldsMoments : ℕ → Option Content → Type 0
HoldsMoments now None = Unit {0}
HoldsMoments now (Some c) = AllBefore now c.events × AreValidMoments c.events

abbrev pub room_in : Option Content → ℕ → Bool
room_in None bytes = false
room_in (Some c) bytes = room_for c bytes

-- the next call passes: it isn't to fail, and for a changing call there is room to keep what it writes
abbrev pub passes : MemState → Option ℕ → Bool
passes s None = is_none (fault_of s.calls)
passes s (Some bytes) = is_none (fault_of s.calls) && room_in s.content bytes

-- the next call fails
abbrev pub Fails : MemState → Option ℕ → Type 0
Fails s call = passes s call ≡ false

-- after a call that changes no image
abbrev pub called : MemState → MemState
called s = record s { calls = if is_none (fault_of s.calls) then begun s.calls else faulted (begun s.calls) }

abbrev pub changed_in : Change → Option Content → CallState → MemState
changed_in ch None calls = record { content = None; calls = calls }
changed_in ch (Some c) calls = record { content = Some (content_after calls ch c); calls = calls_after calls ch c }

-- after a call that changes the image
abbrev pub changed : Change → MemState → MemState
changed ch s = changed_in ch s.content s.calls

-- what is there after a call that makes an image: one that is to fail does nothing, or makes the image unless its part is
-- 0 or memory is wanting; another makes it where it answers Ok
abbrev pub IsMade : Option ℕ → Geometry → Bool → Option Content → Option Content → Type 0
IsMade None g true old new = new ≡ Some (begun_with (blank g))
IsMade None g false old new = new ≡ old
IsMade (Some part) g ok old new = (new ≡ old) ⊎ ((part ≢ 0) × (new ≡ Some (begun_with (blank g))))

-- what a device in memory is after a call, of which it is said whether it answered Ok
abbrev pub IsAfter : MemState → Call → Bool → MemState → Type 0
IsAfter s Looking ok t = t ≡ called s
IsAfter s (Making g) ok t = (t.calls ≡ (called s).calls) × IsMade (fault_of s.calls) g ok s.content t.content
IsAfter s (Changing ch) ok t = t ≡ changed ch s

-- the same image, with a record that begins with it
abbrev pub copied : Option Content → Option Content
copied None = None
copied (Some c) = Some (begun_with c.standing)

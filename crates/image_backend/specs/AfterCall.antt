-- What a device over a file says of a call.
use Rattle.std.specs.Prelude.{◌≡◌, ◌⊎◌, ℕ, Bool, true, false, ◌||◌, nat_lt, Option, None, Some, IsTrue}
use Rattle.zone_image.specs.Counts.{Rose}
use Rattle.zoned_device.specs.Change.{Change, Append, Finish, Reset, Sync, Call, Looking, Making, Changing}
use Rattle.image_backend.specs.Table.{TableState, slot_at}
use Rattle.image_backend.specs.ImageState.{ImageState}

-- a call that changes the image
abbrev pub is_change : Call → Bool
is_change Looking = false
is_change (Making g) = false
is_change (Changing ch) = true

-- a call that makes an image
abbrev pub is_making : Call → Bool
is_making Looking = false
is_making (Making g) = true
is_making (Changing ch) = false

-- a change of which nothing but a descriptor's write or a sync can fail, so that it ends all changes where it fails
abbrev pub is_ending : Change → Bool
is_ending (Append zone added) = false
is_ending (Finish zone) = true
is_ending (Reset zone) = true
is_ending Sync = true

abbrev pub ends_changes : Call → Bool
ends_changes Looking = false
ends_changes (Making g) = false
ends_changes (Changing ch) = is_ending ch

-- the zone has a block or a seal
abbrev pub is_used : Option TableState → ℕ → Bool
is_used None zone = false
is_used (Some t) zone = nat_lt 0 (slot_at t zone).written || (slot_at t zone).sealed

-- a change that is durable once it is done, and all changes before it
abbrev pub is_lasting : Option TableState → Change → Bool
is_lasting table (Append zone added) = false
is_lasting table (Finish zone) = true
is_lasting table (Reset zone) = is_used table zone
is_lasting table Sync = true

-- a call that is durable once it is done
abbrev pub lasts : Option TableState → Call → Bool
lasts table Looking = false
lasts table (Making g) = true
lasts table (Changing ch) = is_lasting table ch

-- a device that takes no changes refuses each
abbrev pub IsRefused : Bool → Option ℕ → Type 0
IsRefused broken None = ⊥
IsRefused broken (Some bytes) = IsTrue broken

-- A fault comes from one of the file, or from a change that isn't taken. No change is taken once one failed that ends
-- them, until an image is made. What lasts is durable in the file.
pub record IsAfterCall {F : Type 0} (faults : F → ℕ) (tells : Type 0) (is_durable : F → Type 0) (old : ImageState F) (call : Call) (done : Bool) (new : ImageState F) : Type 0 where
  pub cause : (new.counts.faults ≡ old.counts.faults) ⊎ Rose (faults old.file) (faults new.file) ⊎ (IsTrue old.counts.broken × IsTrue (is_change call))
  pub stays : is_making call ≡ false → IsTrue old.counts.broken → IsTrue new.counts.broken
  pub mended : IsTrue (is_making call) → IsTrue done → new.counts.broken ≡ false
  pub breaks : IsTrue (ends_changes call) → done ≡ false → IsTrue new.counts.broken
  pub durable : IsTrue (lasts old.table call) → IsTrue done → tells → is_durable new.file

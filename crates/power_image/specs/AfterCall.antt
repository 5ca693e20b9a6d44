-- What a device over a file says of a call.
use Rattle.std.specs.Prelude.{◌≡◌, ◌⊎◌, ℕ, ◌+◌, Bool, false, Option, None, Some, IsTrue}
use Rattle.zone_image.specs.Counts.{Rose}
use Rattle.zoned_device.specs.Change.{Append, Finish, Reset, Sync, Change, Call, Looking, Making, Changing}
use Rattle.image_backend.specs.AfterCall.{is_change, is_making, ends_changes}
use Rattle.power_image.specs.Table.{Known}
use Rattle.power_image.specs.State.{PowerState, AreSettled}

-- the zones that a change describes tell their numbers
abbrev pub IsSettledBy : Change → Known → Type 0
IsSettledBy (Append zone added) k = Unit {0}
IsSettledBy (Finish zone) k = AreSettled k zone (zone + 1)
IsSettledBy (Reset zone) k = AreSettled k zone (zone + 1)
IsSettledBy Sync k = AreSettled k 0 k.zones.geometry.zones

abbrev pub SettlesIn : Change → Option Known → Type 0
SettlesIn ch None = Unit {0}
SettlesIn ch (Some k) = IsSettledBy ch k

abbrev pub Settles : Call → Option Known → Type 0
Settles Looking table = Unit {0}
Settles (Making g) table = Unit {0}
Settles (Changing ch) table = SettlesIn ch table

-- A fault comes from one of the file, or from a change that isn't taken. No change is taken once one failed within a change
-- of descriptors, until an image is made. A finish, a reset and a sync that went well are described.
pub record IsAfterCall {F : Type 0} (faults : F → ℕ) (old : PowerState F) (call : Call) (done : Bool) (new : PowerState F) : Type 0 where
  pub cause : (new.counts.faults ≡ old.counts.faults) ⊎ Rose (faults old.file) (faults new.file) ⊎ (IsTrue old.counts.broken × IsTrue (is_change call))
  pub stays : is_making call ≡ false → IsTrue old.counts.broken → IsTrue new.counts.broken
  pub mended : IsTrue (is_making call) → IsTrue done → new.counts.broken ≡ false
  pub breaks : IsTrue (ends_changes call) → done ≡ false → IsTrue new.counts.broken
  pub settled : IsTrue done → Settles call new.table

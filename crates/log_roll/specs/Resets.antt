-- Zones that are emptied, one after another.
use Rattle.std.specs.Prelude.{◌≡◌, ℕ, zero, suc, ◌+◌, ◌<◌, List}
use Rattle.zone_image.specs.declared.ZoneInfo.{ZoneInfo}
use Rattle.zone_image.specs.Image.{Image, ZoneCrash, no_zone, zone_at}
use Rattle.zone_image.specs.Changes.{change_at, emptied}
use Rattle.zone_image.specs.Infos.{no_info, infos_emptied}
use Rattle.zone_image.specs.Moments.{PassedByReset}
use Rattle.zoned_device.specs.DeviceSteps.{Then}

-- so many items from one on are put in place of what stands there
abbrev pub filled_from : {A : Type 0} → ℕ → ℕ → A → List A → List A
filled_from first zero x xs = xs
filled_from first (suc n) x xs = change_at (first + n) (λ _. x) (filled_from first n x xs)

-- the numbers and seals after so many zones from one on are emptied
abbrev pub infos_cleared : ℕ → ℕ → List ZoneInfo → List ZoneInfo
infos_cleared first count infos = filled_from first count no_info infos

-- the image after that
abbrev pub cleared : ℕ → ℕ → Image → Image
cleared first count i = record i { zones = filled_from first count no_zone i.zones }

-- two zones are emptied
abbrev pub infos_emptied_two : List ZoneInfo → ℕ → ℕ → List ZoneInfo
infos_emptied_two infos first second = infos_emptied (infos_emptied infos first) second

-- the image after that
abbrev pub emptied_two : Image → ℕ → ℕ → Image
emptied_two i first second = emptied (emptied i first) second

-- what two resets pass
abbrev pub PassedByTwoResets : ℕ → ℕ → Image → Image → Type 0
PassedByTwoResets first second = Then (λ i. PassedByReset i first) (λ i. emptied i first) (λ i. PassedByReset i second)

-- three zones are emptied
abbrev pub infos_emptied_three : List ZoneInfo → ℕ → ℕ → ℕ → List ZoneInfo
infos_emptied_three infos first second third = infos_emptied_two (infos_emptied infos first) second third

-- the image after that
abbrev pub emptied_three : Image → ℕ → ℕ → ℕ → Image
emptied_three i first second third = emptied_two (emptied i first) second third

-- what three resets pass
abbrev pub PassedByThreeResets : ℕ → ℕ → ℕ → Image → Image → Type 0
PassedByThreeResets first second third = Then (λ i. PassedByReset i first) (λ i. emptied i first) (PassedByTwoResets second third)

-- the metadata zones are what a crash leaves of them, whatever becomes of the data zones
pub record CrashesMetadata (i j : Image) : Type 0 where
  pub geometry : j.geometry ≡ i.geometry
  pub zones : (m : ℕ) → m < 3 → ZoneCrash (zone_at i m) (zone_at j m)

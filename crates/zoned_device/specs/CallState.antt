-- Which calls of a device in memory fail.
use Rattle.std.specs.Prelude.{ℕ, ◌-◌, ◌^◌, ◌≤◌, Bool, false, List, [], ◌∷◌, Option, None, Some, nat_le, ◌==◌, if◌then◌else◌}
use Rattle.zone_image.specs.Counts.{next_count, next_tick, last_tick}
use Rattle.zoned_device.specs.declared.failing.Failing.{Failing}

-- the calls that are to fail, how many more pass before all fail (if that is limited), the number of the last
-- call, the tick, and the two counts
pub record CallState : Type 0 where
  pub fails : List Failing
  pub passes : Option ℕ
  pub number : ℕ
  pub tick : ℕ
  pub faults : ℕ
  pub failed_changes : ℕ

-- before the first call
abbrev pub no_calls : List Failing → CallState
no_calls fails = record { fails = fails; passes = None; number = 0; tick = 0; faults = 0; failed_changes = 0 }

-- how much of the call of this number is done before it fails, if the list has it
abbrev pub listed_part : List Failing → ℕ → Option ℕ
listed_part [] number = None
listed_part (f ∷ fs) number = if f.call == number then Some f.part else listed_part fs number

-- no call passes any more
abbrev pub is_used_up : Option ℕ → Bool
is_used_up None = false
is_used_up (Some left) = left == 0

-- how much of the next call is done before it fails, if it is to fail
abbrev pub fault_of : CallState → Option ℕ
fault_of s =
    if nat_le last_tick s.tick then Some 0
    else if is_used_up s.passes then Some 0
    else listed_part s.fails (next_count s.number)

-- one call less passes
abbrev pub one_less : Option ℕ → Option ℕ
one_less None = None
one_less (Some left) = Some (left - 1)

-- after a call that didn't fail
abbrev pub begun : CallState → CallState
begun s = record s { passes = one_less s.passes; number = next_count s.number; tick = next_tick s.tick }

-- with a fault counted
abbrev pub faulted : CallState → CallState
faulted s = record s { faults = next_count s.faults }

-- with a failed change counted
abbrev pub change_failed : CallState → CallState
change_failed s = record s { faults = next_count s.faults; failed_changes = next_count s.failed_changes }

-- the tick and the count of faults are within their limits
pub record IsWithinLimits (s : CallState) : Type 0 where
  pub tick : s.tick ≤ last_tick
  pub faults : s.faults ≤ 2 ^ 64 - 1

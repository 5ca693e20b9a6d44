-- Counts of faults and of failed changes, and the tick.
use Rattle.std.specs.Prelude.{◌≡◌, ℕ, ◌+◌, ◌-◌, ◌^◌, ◌≤◌, min, Result, MatchResult}

-- a count of 64 bits after one more; it stands still at its end
abbrev pub next_count : ℕ → ℕ
next_count n = min (n + 1) (2 ^ 64 - 1)

-- the last tick of a device
abbrev pub last_tick : ℕ
last_tick = 2 ^ 64 - 2

-- the tick after a call
abbrev pub next_tick : ℕ → ℕ
next_tick t = min (t + 1) last_tick

-- the count is higher, or stands at its end
abbrev pub Rose : ℕ → ℕ → Type 0
Rose before now = next_count before ≤ now

-- a count of faults didn't fall, and it rose where the call met a fault
pub record HasCause (before now : ℕ) (Fault : Type 0) : Type 0 where
  pub never_falls : before ≤ now
  pub rose : Fault → Rose before now

-- a count goes up by one exactly where the call fails
abbrev pub Counts : {T E : Type 0} → ℕ → ℕ → Result T E → Type 0
Counts before now result = MatchResult result (λ _. now ≡ before) (λ _. now ≡ next_count before)

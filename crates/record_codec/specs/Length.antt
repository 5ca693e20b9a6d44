-- Numbers of bytes as 64-bit numbers.
use Rattle.std.specs.Prelude.{ℕ, ◌-◌, ◌^◌, min}

-- a number of bytes, or the greatest 64-bit number where it is more
abbrev pub told : ℕ → ℕ
told n = min n (2 ^ 64 - 1)

-- A varint of a bounded number of bytes.
use Rattle.std.specs.Prelude.{ℕ, zero, suc, ◌+◌, ◌*◌, ◌-◌, List, [], ◌∷◌, Result, Ok, Err, nat_lt, if◌then◌else◌}
use Rattle.std.specs.List.{list_any}
use Rattle.record_model.specs.FieldDecoding.{◌>>=◌}
use Rattle.record_model.specs.declared.fault.Why.{Why}
use Rattle.record_model.specs.declared.fault.Why.TheVariants.{Short, Range}

-- what is wrong with a varint that has more bytes than it may: out of range, or cut off where its last byte is missing
abbrev pub too_long : List ℕ → Why
too_long bytes = if list_any (λ b. nat_lt b 128) bytes then Range else Short

-- a varint of at most k bytes: its value, and how many bytes it has
unfoldable pub bounded_varint : ℕ → List ℕ → Result (ℕ × ℕ) Why
bounded_varint zero bytes = Err (too_long bytes)
bounded_varint (suc k) [] = Err Short
bounded_varint (suc k) (b ∷ bytes) =
    if nat_lt b 128 then Ok (b, 1) else (do
      v ← bounded_varint k bytes
      Ok ((b - 128) + 128 * v.0, v.1 + 1))

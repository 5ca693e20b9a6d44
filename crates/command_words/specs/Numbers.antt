-- Digits of a number.
use Rattle.std.specs.Prelude.{ℕ, Bool, ◌&&◌, List, length, nat_le}
use Rattle.std.specs.List.{list_all}
use Rattle.command_model.specs.Options.{is_digit, has_no_leading_zero}

-- 1 to 10 digits without a leading zero
abbrev pub is_number : List ℕ → Bool
is_number w = has_no_leading_zero w && nat_le (length w) 10 && list_all is_digit w

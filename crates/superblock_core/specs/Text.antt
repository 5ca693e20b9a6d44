-- Fields of text.
use Rattle.std.specs.Prelude.{ℕ, ◌-◌, ◌<◌, Bool, ◌&&◌, List, ◌++◌, length, take, replicate, position, Option, Some, None, IsTrue, nat_le, ◌==◌, if◌then◌else◌}
use Rattle.std.specs.List.{list_all}
use Rattle.std.specs.Option.{option_and_then}
use Rattle.record_model.specs.Name.{is_printable, is_text}

-- bytes with zeros behind, to a length
abbrev pub padded : ℕ → List ℕ → List ℕ
padded n bytes = bytes ++ replicate (n - length bytes) 0

-- these bytes, if they are text
abbrev pub text_of : List ℕ → Option (List ℕ)
text_of bytes = if is_text bytes then Some bytes else None

-- the text of a field: what stands before its first zero byte
abbrev pub text_in : List ℕ → Option (List ℕ)
text_in field = option_and_then (λ end. text_of (take end field)) (position (λ b. b == 0) field)

-- text that ends before a field of n bytes does
pub record FitsField (n : ℕ) (bytes : List ℕ) : Type 0 where
  pub text : IsTrue (is_text bytes)
  pub room : length bytes < n

-- an auxiliary path: 1 to 255 bytes, none of them a control character
abbrev pub is_aux_path : List ℕ → Bool
is_aux_path bytes = nat_le 1 (length bytes) && nat_le (length bytes) 255 && list_all is_printable bytes

-- the text of a version: at most 63 bytes, none of them a control character
abbrev pub is_version_text : List ℕ → Bool
is_version_text bytes = nat_le (length bytes) 63 && list_all is_printable bytes

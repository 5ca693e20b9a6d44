-- What a text that was cut short leaves.
use Rattle.std.specs.Prelude.{◌≡◌, ℕ, ◌≤◌, List, ◌++◌, length, take}

-- behind the old bytes stand first bytes of the text
pub record AddsFront (old text new : List ℕ) : Type 0 where
  pub count : ℕ
  pub within : count ≤ length text
  pub is : new ≡ old ++ take count text

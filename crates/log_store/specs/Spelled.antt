-- Records whose blocks are spelled before they are added.
use Rattle.std.specs.Prelude.{ℕ, List}

-- the blocks of a record, for a device's block size
pub record SpelledBlocks : Type 0 where
  pub block : ℕ
  pub blocks : List (List ℕ)

-- The memory of a roll.
use Rattle.std.specs.Prelude.{ℕ, max, min}
use Rattle.log_model.specs.LogScan.{blocks_of}

-- for what the memory was taken: a device's block size and capacity, and the greatest length of a payload
pub record RollMemory : Type 0 where
  pub block : ℕ
  pub capacity : ℕ
  pub len : ℕ

-- the blocks of the greater record of a roll, at most those of a zone
abbrev pub roll_blocks : ℕ → ℕ → ℕ → ℕ
roll_blocks block capacity len = min (blocks_of block (max len 512)) capacity

-- How a count of failed changes goes on.
use Rattle.std.specs.Prelude.{ℕ, Result, Ok, Err}
use Rattle.zone_image.specs.Counts.{next_count}
use Rattle.meta_log.specs.declared.error.LogError.{LogError}
use Rattle.meta_log.specs.declared.error.LogError.TheVariants.{DevFault, NoMemory}

-- the count after a call with at most one change, which failed where the answer is a fault
abbrev pub failed_after : {A : Type 0} → Result A LogError → ℕ → ℕ
failed_after (Ok x) n = n
failed_after (Err NoMemory) n = n
failed_after (Err DevFault) n = next_count n

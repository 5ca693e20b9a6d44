-- Records folded into a table, one by one.
use Rattle.std.specs.Prelude.{◌≡◌, ⊤, ℕ, Bool, ◌||◌, List, [], ◌∷◌, Result, Ok, Err}
use Rattle.record_model.specs.FieldDecoding.{◌>>=◌}
use Rattle.record_model.specs.Decoding.{record_of}
use Rattle.log_model.specs.FileTable.{Table, placed, decoded, next_table, is_end}
use Rattle.log_model.specs.declared.selection.DamageWhy.{DamageWhy}
use Rattle.mount_replay.specs.declared.error.ReplayError.{ReplayError}
use Rattle.mount_replay.specs.declared.error.ReplayError.TheVariants.{Damaged}

-- whether the log has ended, and the table, after one payload more, or its first fault
abbrev pub folded : Bool → Table → ℕ × List ℕ → Result (Bool × Table) (ℕ × DamageWhy)
folded ended es p = do
  r ← placed p.0 (decoded (record_of p.1))
  next ← placed p.0 (next_table ended r es)
  Ok (ended || is_end r, next)

-- the answer is the fault, with its zone, or another cause
abbrev pub IsDamagedAs : {A : Type 0} → ℕ → Result A (ℕ × DamageWhy) → ReplayError → Type 0
IsDamagedAs zone after (Damaged d) = (after ≡ Err (d.block, d.why)) × (d.zone ≡ zone)
IsDamagedAs zone after _ = ⊤

-- the block of the last payload, where so far it was this
abbrev pub last_after : ℕ → List (ℕ × List ℕ) → ℕ
last_after block [] = block
last_after block (p ∷ ps) = last_after p.0 ps

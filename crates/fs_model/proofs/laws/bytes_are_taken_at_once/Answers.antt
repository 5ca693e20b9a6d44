use Rattle.std.specs.Prelude.{◌≡◌, ℕ, suc, ◌+◌, ◌<◌, Some}
use Rattle.std.proofs.Common.{subst, arith}
use Rattle.fs_model.specs.FsState.{TableRow, row_of}
use Rattle.fs_model.specs.Trace.{EndsAlike}
use Rattle.fs_model.specs.WriterSteps.{HasZone, Session, append_bytes, flush_at, take_bytes}
use Rattle.fs_model.proofs.BulkAppend.{bulk}
use Rattle.fs_model.proofs.laws.bytes_are_taken_at_once.Goals as goal

-- the same, with the number as it is written
taken_at_once : (n m now : ℕ) (s : Session) (r : TableRow) → suc n ≡ m → HasZone s → row_of s.writer.id s.fs.rows ≡ Some r → s.writer.buffered + suc n < flush_at s
    → EndsAlike (append_bytes m now) (take_bytes m) s
taken_at_once n m now s r is h there low =
    let P : ℕ → Type 0 = λ k. EndsAlike (append_bytes k now) (take_bytes k) s in
    subst P is (bulk n now s r h there low)

pub returns : goal.returns
returns c = λ n now s r h there low. taken_at_once n (n + 1) now s r (omega arith) h there (omega arith)

use Rattle.std.specs.Prelude.{◌+◌}
use Rattle.std.proofs.Common.{arith}
use Rattle.fs_model.specs.WriterSteps.{append_byte}
use Rattle.fs_model.proofs.EachLaws.{repeat_then, repeat_stops_at}
use Rattle.fs_model.proofs.laws.appends_compose.Goals as goal

pub returns-clause-goes_on : goal.returns-clause-goes_on
returns-clause-goes_on c = λ n k now. repeat_then (append_byte now) n k

pub returns-clause-stops : goal.returns-clause-stops
returns-clause-stops c = λ n k now before after e. repeat_stops_at (append_byte now) n k (n + 1) (n + 1 + k) before after e (omega arith) (omega arith)

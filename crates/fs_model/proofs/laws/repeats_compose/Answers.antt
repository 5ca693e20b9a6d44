use Rattle.std.specs.Prelude.{◌+◌}
use Rattle.std.proofs.Common.{arith}
use Rattle.fs_model.proofs.EachLaws.{repeat_then, repeat_stops_at}
use Rattle.fs_model.proofs.laws.repeats_compose.Goals as goal

pub returns-clause-goes_on : goal.returns-clause-goes_on
returns-clause-goes_on g c = repeat_then

pub returns-clause-stops : goal.returns-clause-stops
returns-clause-stops g c = λ m n k before after e. repeat_stops_at m n k (n + 1) (n + 1 + k) before after e (omega arith) (omega arith)

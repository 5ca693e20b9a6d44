use Rattle.std.proofs.Common.{arith}
use Rattle.fs_report.proofs.Fronts.{front_more}
use Rattle.fs_report.proofs.sink.write_all.Goals as goal

pub loop-at-preserved : goal.loop-at-preserved
loop-at-preserved g c = record {
  within = grind (arith, c.in_ok-taken.ensures.taken);
  written = λ told. front_more _ _ _ _ _ _ (c.loop-at.invariant.written told) (c.in_ok-taken.ensures.added told);
  counted = omega (arith, c.loop-at.invariant.counted, c.in_ok-taken.ensures.cause.never_falls);
}

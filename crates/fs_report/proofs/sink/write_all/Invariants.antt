use Rattle.std.proofs.Common.{◌≡◌, ◌≤◌, ◌-◌, ◌++◌, length, take}
use Rattle.fs_report.proofs.sink.write_all.Given as goal

-- the first bytes of the text are written
abbrev pub invariant-loop-at : goal.invariant-loop-at
invariant-loop-at g l = record {
  within : l.at ≤ length l.text;
  written : g.O.Sink.tells → g.O.Sink.written l.out ≡ g.O.Sink.written l.fn.out ++ take l.at l.text;
  counted : g.O.Sink.faults l.fn.out ≤ g.O.Sink.faults l.out;
}

abbrev pub decreases-loop-at : goal.decreases-loop-at
decreases-loop-at g l = length l.text - l.at

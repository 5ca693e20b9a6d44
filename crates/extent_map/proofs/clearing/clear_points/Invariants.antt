use Rattle.std.proofs.Common.{◌≡◌}
use Rattle.fs_model.specs.TreeSteps.{cleared}
use Rattle.extent_map.proofs.AfterLaws.{changed_to}
use Rattle.extent_map.proofs.clearing.clear_points.Given as goal

-- so many points are taken away
abbrev pub invariant-loop-i : goal.invariant-loop-i
invariant-loop-i l = l.rows.items ≡ changed_to cleared l.i l.initial.rows.items

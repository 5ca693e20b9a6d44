use Rattle.std.proofs.Common.{◌≡◌, ◌+◌, ◌≤◌, drop}
use Rattle.power_image.specs.OpenBytes.{open_count}
use Rattle.power_image.proofs.power_mem.count_open.Given as goal

-- those before the index are counted
abbrev pub invariant-loop-n : goal.invariant-loop-n
invariant-loop-n l = record {
  counted : l.count + open_count (drop l.n l.flags) ≡ open_count l.flags;
  few : l.count ≤ l.n;
}

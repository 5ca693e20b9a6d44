use Rattle.std.proofs.Common.{◌≤◌, ◌-◌, length}
use Rattle.extent_map.specs.Applying.{place_of}
use Rattle.extent_map.proofs.place.place_of.Given as goal

-- the place lies between the two
abbrev pub invariant-halves : goal.invariant-halves
invariant-halves l = record {
  low : l.low ≤ place_of l.id l.rows;
  high : place_of l.id l.rows ≤ l.high;
  within : l.high ≤ length l.rows;
}

-- how far apart they are
abbrev pub decreases-halves : goal.decreases-halves
decreases-halves l = l.high - l.low

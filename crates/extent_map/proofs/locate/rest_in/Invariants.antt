use Rattle.std.proofs.Common.{◌≡◌, drop}
use Rattle.extent_map.specs.Lookups.{rest_in}
use Rattle.extent_map.proofs.locate.rest_in.Given as goal

-- the byte is as far into the rest
abbrev pub invariant-loop-extent : goal.invariant-loop-extent
invariant-loop-extent l = rest_in l.rest (drop l.extent-index l.extents) ≡ rest_in l.offset l.extents

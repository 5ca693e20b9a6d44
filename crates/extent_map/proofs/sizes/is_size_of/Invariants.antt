use Rattle.std.proofs.Common.{◌≡◌, ◌+◌, take}
use Rattle.log_model.specs.FileTable.{size_of}
use Rattle.extent_map.proofs.sizes.is_size_of.Given as goal

-- what is left of the number behind the lengths so far
abbrev pub invariant-loop-extent : goal.invariant-loop-extent
invariant-loop-extent l = l.size ≡ l.rest + size_of (take l.extent-index l.extents)

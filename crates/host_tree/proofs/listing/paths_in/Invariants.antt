use Rattle.std.proofs.Common.{◌≡◌, take}
use Rattle.host_tree.specs.MemTreeState.{paths_in}
use Rattle.host_tree.proofs.listing.paths_in.Given as goal

-- the paths of the entries so far
abbrev pub invariant-loop-file : goal.invariant-loop-file
invariant-loop-file l = l.paths.items ≡ paths_in (take l.file-index l.files) l.dir

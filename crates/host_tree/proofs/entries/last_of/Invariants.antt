use Rattle.std.proofs.Common.{◌≡◌, drop}
use Rattle.host_tree.specs.MemTreeState.{last_of, file_at}
use Rattle.host_tree.proofs.FoundEntries.{bytes_found, IsNamed}
use Rattle.host_tree.proofs.entries.last_of.Given as goal

-- what was found, and what is still found, is what is found in all
abbrev pub invariant-loop-i : goal.invariant-loop-i
invariant-loop-i l =
    (last_of (bytes_found l.files l.found) (drop l.i l.files) l.dir l.path ≡ file_at l.files l.dir l.path)
    × IsNamed l.files l.dir l.path l.found

use Rattle.std.proofs.Common.{◌≡◌, ◌≤◌, List, length, arith, sym, ◌∙◌}
use Rattle.std.proofs.lemmas.List.{at_drop_all}
use Rattle.host_tree.specs.declared.host_file.HostFile.{HostFile}
use Rattle.host_tree.specs.MemTreeState.{last_of}
use Rattle.host_tree.proofs.FoundEntries.{bytes_found, found_is}
use Rattle.host_tree.proofs.entries.last_of.Goals as goal

pub returns : goal.returns
returns c =
    let ended : length c.args.files.now ≤ c.loop-i.i = omega arith in
    let rest = at_drop_all (λ (l : List HostFile). last_of (bytes_found c.args.files.now c.loop-i.found) l c.args.dir.now c.args.path.now) c.args.files.now c.loop-i.i ended in
    found_is c.args.files.now c.args.dir.now c.args.path.now c.loop-i.found c.loop-i.invariant.1 (sym rest ∙ c.loop-i.invariant.0)

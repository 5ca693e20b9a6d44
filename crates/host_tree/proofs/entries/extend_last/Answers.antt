use Rattle.std.proofs.Common.{◌-◌, List, slice_set, ap, ◌∙◌, arith}
use Rattle.std.proofs.lemmas.Result.{on_ok_weaker}
use Rattle.host_tree.specs.declared.host_file.HostFile.{HostFile}
use Rattle.host_tree.specs.MemTreeState.{grown}
use Rattle.host_tree.proofs.LastEntries.{set_last}
use Rattle.host_tree.proofs.entries.extend_last.Goals as goal

pub returns-clause-done : goal.returns-clause-done
returns-clause-done c =
    on_ok_weaker c.grow.result (λ grew.
    ap (λ (f : HostFile). slice_set c.args.files.now.items (c.len-last.result - 1) f) (grew ∙ ap (λ (f : HostFile). grown f c.args.piece.now) c.index_mut.ensures.value)
    ∙ set_last c.args.files.now.items (c.len-last.result - 1) _ c.args.piece.now (omega arith))
    c.grow.ensures.done

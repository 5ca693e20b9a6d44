use Rattle.std.proofs.Common.{◌≡◌, true, false, Err, sym, ◌∙◌, ap, subst, arith}
use Rattle.std.specs.Prelude.{nat_lt}
use Rattle.std.proofs.lemmas.Bool.{le-ltb, lt-ltb}
use Rattle.fs_model.specs.declared.error.FsError.TheVariants.{MetaFull}
use Rattle.fs_model.specs.LogSteps.{at_sequence_end}
use Rattle.fs_model.specs.Trace.{Refines}
use Rattle.fs_model.specs.TreeSteps.{mount_write}
use Rattle.change_steps.specs.WriteMount.{mount_need}
use Rattle.change_steps.proofs.MountLaws.{mount_at_sequence_end, mount_ends, mount_is_full}
use Rattle.fs_core.proofs.mount_write.prepare_log.Goals as goal

pub returns-then-at_sequence_end-clause-refused : goal.returns-then-at_sequence_end-clause-refused
returns-then-at_sequence_end-clause-refused c =
    mount_at_sequence_end c.args.tables.now.state (sym c.at_sequence_end.ensures ∙ c.if-at_sequence_end.true)

pub returns-then-from-need-clause-refused : goal.returns-then-from-need-clause-refused
returns-then-from-need-clause-refused c =
    let s = c.args.tables.now.state in
    let capacity = ap (λ h. h.capacity) c.geometry-capacity.ensures.value in
    let above : nat_lt s.geometry.capacity (mount_need s) ≡ true =
    lt-ltb s.geometry.capacity (mount_need s) (omega (arith, c.if-from-need.true, c.from.ensures, capacity, c.mount_need-need.ensures)) in
    subst (λ n. Refines mount_write s (Err (MetaFull n c.geometry-capacity.result.capacity)) s) (sym c.mount_need-need.ensures)
    (subst (λ n. Refines mount_write s (Err (MetaFull (mount_need s) n)) s) (sym capacity) (mount_is_full s (sym c.at_sequence_end.ensures ∙ c.if-at_sequence_end.false) above))

pub returns-in-Err-clause-refused : goal.returns-in-Err-clause-refused
returns-in-Err-clause-refused c =
    let s = c.args.tables.now.state in
    let sequence : at_sequence_end s ≡ false = sym c.at_sequence_end.ensures ∙ c.if-at_sequence_end.false in
    let capacity = ap (λ h. h.capacity) c.geometry-capacity.ensures.value in
    let room : nat_lt s.geometry.capacity (mount_need s) ≡ false =
    le-ltb s.geometry.capacity (mount_need s) (omega (arith, c.if-from-need.false, c.from.ensures, capacity, c.mount_need-need.ensures)) in
    (mount_ends s sequence room).memory_wanting

use Rattle.std.proofs.Common.{ap, sym, subst, ◌∙◌, ◌<◌, ◌≡◌, ℕ}
use Rattle.std.specs.Prelude.{false}
use Rattle.fs_model.specs.declared.error.FsError.TheVariants.{MetaFull}
use Rattle.change_steps.specs.WriteMount.{mount_need}
use Rattle.fs_model.specs.LogSteps.{at_sequence_end}
use Rattle.fs_core.specs.Checking.{IsRefusedBy}
use Rattle.fs_core.proofs.Checks.{mount_is_refused, table_is_refused}
use Rattle.fs_core.proofs.check.check_mount.Goals as goal

pub returns-then-at_sequence_end-clause-refused : goal.returns-then-at_sequence_end-clause-refused
returns-then-at_sequence_end-clause-refused c = mount_is_refused c.args.tables.now.state (sym c.at_sequence_end.ensures ∙ c.if-at_sequence_end.true)

pub returns-then-need-from-clause-refused : goal.returns-then-need-from-clause-refused
returns-then-need-from-clause-refused c =
    let s = c.args.tables.now.state in
    let same : c.geometry-capacity.result.capacity ≡ s.geometry.capacity = ap (λ g. g.capacity) c.geometry-capacity.ensures.value in
    let left : at_sequence_end s ≡ false = sym c.at_sequence_end.ensures ∙ c.if-at_sequence_end.false in
    let is : c.mount_need-need.result ≡ mount_need s = c.mount_need-need.ensures in
    let above : s.geometry.capacity < c.mount_need-need.result = subst (λ (n : ℕ). n < c.mount_need-need.result) (c.from.ensures ∙ same) c.if-need-from.true in
    let full : s.geometry.capacity < mount_need s = subst (λ (n : ℕ). s.geometry.capacity < n) is above in
    subst (λ (n : ℕ). (blocks : ℕ) → IsRefusedBy blocks false s (MetaFull n c.geometry-capacity.result.capacity)) (sym is)
    (subst (λ (n : ℕ). (blocks : ℕ) → IsRefusedBy blocks false s (MetaFull (mount_need s) n)) (sym same) (table_is_refused s left full))

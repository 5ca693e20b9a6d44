use Rattle.std.proofs.Common.{ap, sym, subst, ◌∙◌, ◌<◌, ◌≤◌, ◌≡◌, ℕ}
use Rattle.fs_model.specs.declared.error.FsError.TheVariants.{MetaFull}
use Rattle.std.specs.Prelude.{Err, Some}
use Rattle.fs_core.specs.Checking.{AnswersDemand}
use Rattle.fs_core.proofs.Checks.{need_is_refused, need_passes}
use Rattle.fs_core.proofs.check.check_room.Goals as goal

pub returns-then-asked-from-clause-answer : goal.returns-then-asked-from-clause-answer
returns-then-asked-from-clause-answer c =
    let s = c.args.tables.now.state in
    let same : c.geometry-capacity.result.capacity ≡ s.geometry.capacity = ap (λ g. g.capacity) c.geometry-capacity.ensures.value in
    let above : s.geometry.capacity < c.args.asked.need = subst (λ (n : ℕ). n < c.args.asked.need) (c.from.ensures ∙ same) c.if-asked-from.true in
    subst (λ (n : ℕ). AnswersDemand (Some c.args.asked.need) c.args.asked.blocks c.args.writing s (Err (MetaFull c.args.asked.need n))) (sym same)
    (need_is_refused c.args.writing s c.args.asked.blocks c.args.asked.need c.requires above)

pub returns-clause-answer : goal.returns-clause-answer
returns-clause-answer c =
    let s = c.args.tables.now.state in
    let same : c.from.result ≡ s.geometry.capacity = c.from.ensures ∙ ap (λ g. g.capacity) c.geometry-capacity.ensures.value in
    need_passes c.args.writing s c.args.asked.blocks c.args.asked.need c.requires (subst (λ (n : ℕ). c.args.asked.need ≤ n) same c.if-asked-from.false)

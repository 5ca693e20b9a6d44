use Rattle.std.proofs.Common.{ap, sym, ◌∙◌, ◌+◌, ◌-◌, ◌^◌}
use Rattle.std.specs.Prelude.{Some}
use Rattle.fs_core.proofs.Checks.{another_id, none_named, some_named}
use Rattle.std.proofs.lemmas.Bool.{eq-eqb}
use Rattle.change_steps.specs.Checking.{create_only}
use Rattle.change_steps.specs.NameChanges.{create_demand}
use Rattle.change_steps.proofs.CheckLaws.{create_only_finds_name, create_only_finds_no_id, create_only_asks, name_is_checked, id_is_checked}
use Rattle.fs_core.proofs.check.check_create.Goals as goal

pub returns-then-is_some-clause-answer : goal.returns-then-is_some-clause-answer
returns-then-is_some-clause-answer c = λ hint now.
    let s = c.args.tables.now.state in
    let found = some_named c.find.result c.args.name.now c.files.result.now.rows c.args.tables.now.state.rows c.find.ensures c.files.ensures.files (sym c.if-is_some.ensures) in
    name_is_checked s c.args.writing (create_only c.args.name.now hint c.args.sparse now)
    (create_only_finds_name s c.args.name.now hint c.args.sparse now found.0 found.1).0

pub returns-then-greatest-eq-LAST_ID-clause-answer : goal.returns-then-greatest-eq-LAST_ID-clause-answer
returns-then-greatest-eq-LAST_ID-clause-answer c = λ hint now.
    let s = c.args.tables.now.state in
    let free = none_named c.find.result c.args.name.now c.files.result.now.rows c.args.tables.now.state.rows c.find.ensures c.files.ensures.files (sym c.if-is_some.ensures) in
    id_is_checked s c.args.writing (create_only c.args.name.now hint c.args.sparse now)
    (create_only_finds_no_id s c.args.name.now hint c.args.sparse now free (eq-eqb s.greatest (2 ^ 64 - 2) (sym c.files-2.ensures.greatest ∙ (sym c.greatest.ensures ∙ c.if-greatest-eq-LAST_ID.true)))).0

pub returns-clause-answer : goal.returns-clause-answer
returns-clause-answer c = λ hint now.
    let s = c.args.tables.now.state in
    let free = none_named c.find.result c.args.name.now c.files.result.now.rows c.args.tables.now.state.rows c.find.ensures c.files.ensures.files (sym c.if-is_some.ensures) in
    let need = c.create_need.ensures (s.greatest + 1) hint now in
    c.check_need.ensures.answer (create_only c.args.name.now hint c.args.sparse now) (create_demand s c.args.name.now hint c.args.sparse now)
    (create_only_asks s c.args.name.now hint c.args.sparse now free
    (another_id s.greatest c.greatest.result (2 ^ 64 - 2) (c.greatest.ensures ∙ c.files-2.ensures.greatest) c.if-greatest-eq-LAST_ID.false)) (sym need.change) (ap (λ n. Some n) (sym need.room))

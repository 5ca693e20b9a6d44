use Rattle.std.proofs.Common.{ap, sym}
use Rattle.fs_core.proofs.Checks.{none_named, some_named}
use Rattle.std.specs.Prelude.{Some}
use Rattle.fs_model.specs.TreeSteps.{rename}
use Rattle.change_steps.specs.NameChanges.{rename_demand}
use Rattle.change_steps.proofs.NameLaws.{rename_finds_no_file, rename_asks}
use Rattle.change_steps.proofs.CheckLaws.{missing_is_checked}
use Rattle.fs_core.proofs.check.check_rename.Goals as goal

pub returns-then-is_none-clause-answer : goal.returns-then-is_none-clause-answer
returns-then-is_none-clause-answer c =
    let s = c.args.tables.now.state in
    missing_is_checked s c.args.writing (rename c.args.old.now c.args.new.now) (rename_finds_no_file s c.args.old.now c.args.new.now (none_named c.find.result c.args.old.now c.files.result.now.rows c.args.tables.now.state.rows c.find.ensures c.files.ensures.files c.if-is_none.ensures)).0

pub returns-clause-answer : goal.returns-clause-answer
returns-clause-answer c =
    let s = c.args.tables.now.state in
    let there = some_named c.find.result c.args.old.now c.files.result.now.rows c.args.tables.now.state.rows c.find.ensures c.files.ensures.files c.if-is_none.ensures in
    let need = c.rename_need.ensures there.0 there.1 in
    c.check_need.ensures.answer (rename c.args.old.now c.args.new.now) (rename_demand s there.0 c.args.old.now c.args.new.now)
    (rename_asks s c.args.old.now c.args.new.now there.0 there.1) (sym need.change) (ap (λ n. Some n) (sym need.room))

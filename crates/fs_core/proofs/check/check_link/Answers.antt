use Rattle.std.proofs.Common.{ap, sym}
use Rattle.fs_core.proofs.Checks.{none_named, some_named}
use Rattle.std.specs.Prelude.{Some}
use Rattle.fs_model.specs.TreeSteps.{link}
use Rattle.change_steps.specs.NameChanges.{link_demand}
use Rattle.change_steps.proofs.NameLaws.{link_finds_no_file, link_finds_name, link_asks}
use Rattle.change_steps.proofs.CheckLaws.{missing_is_checked, name_is_checked}
use Rattle.fs_core.proofs.check.check_link.Goals as goal

pub returns-then-is_none-clause-answer : goal.returns-then-is_none-clause-answer
returns-then-is_none-clause-answer c =
    let s = c.args.tables.now.state in
    missing_is_checked s c.args.writing (link c.args.old.now c.args.new.now) (link_finds_no_file s c.args.old.now c.args.new.now (none_named c.find.result c.args.old.now c.files.result.now.rows c.args.tables.now.state.rows c.find.ensures c.files.ensures.files c.if-is_none.ensures)).0

pub returns-then-is_some-clause-answer : goal.returns-then-is_some-clause-answer
returns-then-is_some-clause-answer c =
    let s = c.args.tables.now.state in
    let there = some_named c.find.result c.args.old.now c.files.result.now.rows c.args.tables.now.state.rows c.find.ensures c.files.ensures.files c.if-is_none.ensures in
    let other = some_named c.find-2.result c.args.new.now c.files-2.result.now.rows c.args.tables.now.state.rows c.find-2.ensures c.files-2.ensures.files (sym c.if-is_some.ensures) in
    name_is_checked s c.args.writing (link c.args.old.now c.args.new.now)
    (link_finds_name s c.args.old.now c.args.new.now there.0 other.0 there.1 other.1).0

pub returns-clause-answer : goal.returns-clause-answer
returns-clause-answer c =
    let s = c.args.tables.now.state in
    let there = some_named c.find.result c.args.old.now c.files.result.now.rows c.args.tables.now.state.rows c.find.ensures c.files.ensures.files c.if-is_none.ensures in
    let need = c.link_need.ensures there.0 there.1 in
    c.check_need.ensures.answer (link c.args.old.now c.args.new.now) (link_demand s there.0 c.args.new.now)
    (link_asks s c.args.old.now c.args.new.now there.0 there.1 (none_named c.find-2.result c.args.new.now c.files-2.result.now.rows c.args.tables.now.state.rows c.find-2.ensures c.files-2.ensures.files (sym c.if-is_some.ensures))) (sym need.change) (ap (λ n. Some n) (sym need.room))

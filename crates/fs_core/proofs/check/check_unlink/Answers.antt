use Rattle.std.proofs.Common.{sym}
use Rattle.fs_core.proofs.Checks.{none_named, some_named, room_passes}
use Rattle.std.specs.Prelude.{None, refl}
use Rattle.fs_model.specs.TreeSteps.{delete}
use Rattle.change_steps.specs.NameChanges.{delete_demand}
use Rattle.change_steps.proofs.NameLaws.{delete_finds_no_file, delete_asks}
use Rattle.change_steps.proofs.CheckLaws.{missing_is_checked}
use Rattle.fs_core.proofs.check.check_unlink.Goals as goal

pub returns-then-is_none-clause-answer : goal.returns-then-is_none-clause-answer
returns-then-is_none-clause-answer c =
    let s = c.args.tables.now.state in
    missing_is_checked s c.args.writing (delete c.args.name.now) (delete_finds_no_file s c.args.name.now (none_named c.find.result c.args.name.now c.files.result.now.rows c.args.tables.now.state.rows c.find.ensures c.files.ensures.files c.if-is_none.ensures)).0

pub returns-in-Ok-clause-answer : goal.returns-in-Ok-clause-answer
returns-in-Ok-clause-answer c =
    let s = c.args.tables.now.state in
    let there = some_named c.find.result c.args.name.now c.files.result.now.rows c.args.tables.now.state.rows c.find.ensures c.files.ensures.files c.if-is_none.ensures in
    room_passes c.args.writing s c.delete_blocks.result None c.in-Ok.ensures.passes refl (delete c.args.name.now) (delete_demand s there.0 c.args.name.now)
    (delete_asks s c.args.name.now there.0 there.1) (sym (c.delete_blocks.ensures.record there.0.entry.id)) refl

pub returns-in-Err-clause-answer : goal.returns-in-Err-clause-answer
returns-in-Err-clause-answer c =
    let s = c.args.tables.now.state in
    let there = some_named c.find.result c.args.name.now c.files.result.now.rows c.args.tables.now.state.rows c.find.ensures c.files.ensures.files c.if-is_none.ensures in
    c.in-Err.ensures.refused (delete c.args.name.now) (delete_demand s there.0 c.args.name.now)
    (delete_asks s c.args.name.now there.0 there.1) (sym (c.delete_blocks.ensures.record there.0.entry.id))

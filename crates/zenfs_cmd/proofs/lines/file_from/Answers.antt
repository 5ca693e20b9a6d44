use Rattle.std.proofs.Common.{◌∙◌, refl, sym, subst, ◌≤◌}
use Rattle.std.specs.Prelude.{IfSome}
use Rattle.fs_model.specs.FsState.{row_of}
use Rattle.zenfs_cmd.proofs.RisingIds.{found_above, least_finds_first, least_finds_none}
use Rattle.zenfs_cmd.proofs.lines.file_from.Goals as goal

pub returns-in-Some-clause-least : goal.returns-in-Some-clause-least
returns-in-Some-clause-least c =
    let rows = c.args.files.now.rows in
    subst (λ o. IfSome o (λ e. c.args.from ≤ e.id)) (sym c.file.ensures)
    (found_above c.args.from c.in-Some.id rows (row_of c.in-Some.id rows) refl (sym c.in-Some.ensures))

pub returns-in-Some-clause-first : goal.returns-in-Some-clause-first
returns-in-Some-clause-first c = λ rise. c.file.ensures ∙ least_finds_first c.args.from c.args.files.now.rows c.in-Some.id rise (sym c.in-Some.ensures)

pub returns-in-None-clause-first : goal.returns-in-None-clause-first
returns-in-None-clause-first c = λ rise. least_finds_none c.args.from c.args.files.now.rows rise (sym c.in-None.ensures)

use Rattle.std.proofs.Common.{◌∙◌, ap}
use Rattle.std.specs.List.{list_all}
use Rattle.record_model.specs.Name.{is_printable}
use Rattle.superblock_core.proofs.Fields.{is_text-of_utf8, is_text-of_no_utf8}
use Rattle.superblock_core.proofs.text.is_text.Goals as goal

pub returns-in-Ok : goal.returns-in-Ok
returns-in-Ok c =
    is_text-of_utf8 c.args.bytes.now c.has_no_control.result c.in-Ok.ensures.cases.1
    (c.has_no_control.ensures ∙ ap (list_all is_printable) c.in-Ok.ensures.cases.0)

pub returns-in-Err : goal.returns-in-Err
returns-in-Err c = is_text-of_no_utf8 c.args.bytes.now c.in-Err.ensures.cases.0

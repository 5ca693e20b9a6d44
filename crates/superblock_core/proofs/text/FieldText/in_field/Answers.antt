use Rattle.std.proofs.Common.{sym, ◌∙◌, ap, Some, true, false}
use Rattle.superblock_core.proofs.Fields.{text_in-at, text_in-none}
use Rattle.superblock_core.proofs.text.FieldText.in_field.Goals as goal

pub returns-in_err-end : goal.returns-in_err-end
returns-in_err-end g c = c.from_residual.ensures ∙ sym (text_in-none c.args.field.now (sym c.first_zero.ensures ∙ c.in_err-end.was))

pub returns-then-is_text : goal.returns-then-is_text
returns-then-is_text g c =
    ap Some c.new.ensures
    ∙ sym (text_in-at c.args.field.now c.in_ok-end.end true (sym c.first_zero.ensures ∙ c.in_ok-end.was) (sym c.is_text.ensures ∙ c.if-is_text.true))

pub returns-else-is_text : goal.returns-else-is_text
returns-else-is_text g c =
    sym (text_in-at c.args.field.now c.in_ok-end.end false (sym c.first_zero.ensures ∙ c.in_ok-end.was) (sym c.is_text.ensures ∙ c.if-is_text.false))

use Rattle.std.proofs.Common.{[], ◌∷◌, ◌++◌, ◌∙◌, sym, ap, append_assoc}
use Rattle.std.specs.Fmt.{decimal, styled_decimal}
use Rattle.std.proofs.lemmas.Result.{IfOk-weaker}
use Rattle.command_model.specs.ReportTexts.{in_twelve}
use Rattle.fs_report.proofs.Padding.{padded_right}
use Rattle.fs_report.proofs.listing.numbers_text.Goals as goal

pub returns : goal.returns
returns c =
    IfOk-weaker c.format.result _ _ (λ s text_is.
    text_is
    ∙ ap (λ size. size ++ 9 ∷ (decimal c.args.time ++ 9 ∷ [])) (ap (λ options. styled_decimal options c.args.size) c.laid_out.ensures ∙ padded_right (decimal c.args.size))
    ∙ sym (append_assoc (in_twelve c.args.size) (9 ∷ decimal c.args.time) (9 ∷ [])))
    c.format.ensures.ok

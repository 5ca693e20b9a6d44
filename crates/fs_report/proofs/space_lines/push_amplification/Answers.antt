use Rattle.std.proofs.Common.{◌++◌, ap, ◌∙◌}
use Rattle.std.specs.Prelude.{codes, decimal}
use Rattle.command_model.specs.ReportTexts.{text_line}
use Rattle.fs_report.proofs.space_lines.push_amplification.Goals as goal

pub returns : goal.returns
returns c =
    c.in_ok-push_text_line.ensures
    ∙ ap (λ v. c.args.text.now.items ++ text_line (codes "Space amplification") v)
    (c.deref.ensures.value ∙ c.in_ok-percent.ensures ∙ ap (λ n. decimal n ++ codes "%") c.amplification.ensures)

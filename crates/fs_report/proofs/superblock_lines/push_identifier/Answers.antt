use Rattle.std.proofs.Common.{◌++◌, ap, ◌∙◌}
use Rattle.std.specs.Prelude.{codes}
use Rattle.command_model.specs.ReportTexts.{text_line}
use Rattle.fs_report.proofs.Pieces.{written_identifier}
use Rattle.fs_report.proofs.superblock_lines.push_identifier.Goals as goal

pub returns : goal.returns
returns c =
    c.in_ok-push_text_line.ensures
    ∙ ap (λ v. c.args.text.now.items ++ text_line (codes "UUID") v)
    (c.as_bytes.ensures.value ∙ written_identifier c.args.id _ _ c.encode_lower-identifier.ensures.text (c.hyphenated.ensures ∙ c.from_u128.ensures))

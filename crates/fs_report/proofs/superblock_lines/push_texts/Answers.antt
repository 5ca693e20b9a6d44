use Rattle.std.proofs.Common.{◌++◌, ap, ◌∙◌}
use Rattle.std.specs.Prelude.{codes}
use Rattle.command_model.specs.ReportTexts.{text_line}
use Rattle.fs_report.proofs.Pieces.{two_more}
use Rattle.fs_report.proofs.superblock_lines.push_texts.Goals as goal

pub returns : goal.returns
returns c =
    two_more c.args.text.now.items (text_line (codes "Auxiliary path") c.args.superblock.now.aux_path)
    (text_line (codes "ZenFS version") c.args.superblock.now.version_text) c.push_text_line.new.text.items _
    (c.in_ok-push_text_line.ensures ∙ ap (λ v. c.args.text.now.items ++ text_line (codes "Auxiliary path") v) c.bytes.ensures.bytes)
    (c.in_ok-push_text_line-2.ensures ∙ ap (λ v. c.push_text_line.new.text.items ++ text_line (codes "ZenFS version") v) c.bytes-2.ensures.bytes)

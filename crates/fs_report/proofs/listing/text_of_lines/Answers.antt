use Rattle.std.proofs.Common.{ap, ◌∙◌}
use Rattle.std.specs.Prelude.{flat_map}
use Rattle.std.specs.Option.{option_copied}
use Rattle.fs_report.specs.Lines.{listed_of, listed_text}
use Rattle.fs_report.proofs.LinesInOrder.{text_is_list}
use Rattle.fs_report.proofs.listing.text_of_lines.Goals as goal

pub returns : goal.returns
returns c = λ files lines.
    let texts = c.in_ok-texts_of.ensures ∙ ap (λ all. flat_map (λ line. listed_text c.deref.result.now (listed_of line)) all) c.deref-2.ensures.value in
    text_is_list files (option_copied c.args.prefix) c.args.lines.now.items c.sort_lines.new.lines.items c.from_vec.result
    lines c.in_ok-sort_lines.ensures
    (c.from_vec.ensures ∙ texts ∙ ap (λ folder. flat_map (λ line. listed_text folder (listed_of line)) c.sort_lines.new.lines.items) (c.deref.ensures.value ∙ c.in_ok-folder.ensures))

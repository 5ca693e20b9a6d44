use Rattle.std.proofs.Common.{rules, ap, map, ◌∙◌}
use Rattle.std.proofs.lemmas.Result.{on_ok_weaker}
use Rattle.std.proofs.lemmas.List.Sorted.{answers_always}
use Rattle.fs_report.specs.Lines.{listed_of}
use Rattle.fs_report.proofs.StableSort.{stable_sort_is}
use Rattle.fs_report.proofs.LinesInOrder.{line_before, lines_ordered, sorted_listed}
use Rattle.fs_report.proofs.listing.sort_lines.Goals as goal

pub returns : goal.returns
returns c =
    on_ok_weaker c.sort_by.result (λ sorted.
    ap (map listed_of) (stable_sort_is line_before lines_ordered c.args.lines.now.items c.sort_by.new.self.items
    (sorted line_before lines_ordered (answers_always _ _ _ (λ f a r g called. search rules)))
    (c.sort_by.ensures.stable line_before lines_ordered (answers_always _ _ _ (λ f a r g called. search rules))))
    ∙ sorted_listed c.args.lines.now.items)
    c.sort_by.ensures.sorted

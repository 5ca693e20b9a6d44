use Rattle.std.proofs.Common.{List, ap, ◌∙◌, arith}
use Rattle.std.proofs.lemmas.List.{take_all}
use Rattle.record_codec.specs.Length.{told}
use Rattle.fs_model.specs.FsState.{TableRow, working_of}
use Rattle.extent_map.specs.Records.{greatest_len}
use Rattle.extent_map.specs.RowsAfter.{rows_after}
use Rattle.extent_map.proofs.AfterLaws.{longest_next}
use Rattle.extent_map.proofs.rows_after.greatest_len_after.Goals as goal

pub loop-row-preserved : goal.loop-row-preserved
loop-row-preserved c = λ names h.
    c.max-greatest.ensures
    ∙ longest_next c.args.id names c.args.taken.now c.args.rows.now c.loop-row.row-index c.row-item.result c.loop-row.greatest c.update_len_after.result (omega arith) c.row-item.is
    (c.loop-row.invariant names h) (c.update_len_after.ensures names h)

pub returns : goal.returns
returns c = λ names h.
    c.loop-row.invariant names h
    ∙ ap (λ (rs : List TableRow). told (greatest_len (working_of (rows_after c.args.id names c.args.taken.now rs)))) (take_all c.loop-row.row-index c.args.rows.now (omega arith))

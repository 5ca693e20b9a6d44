use Rattle.std.proofs.Common.{List, length, ap, ◌∙◌, arith}
use Rattle.std.proofs.lemmas.List.{take_all}
use Rattle.record_codec.specs.Length.{told}
use Rattle.fs_model.specs.FsState.{TableRow}
use Rattle.extent_map.specs.RowsAfter.{rows_after, entries_bytes}
use Rattle.extent_map.proofs.AfterLaws.{bytes_more}
use Rattle.extent_map.proofs.rows_after.entries_len_after.Goals as goal

pub loop-row-preserved : goal.loop-row-preserved
loop-row-preserved c = λ names h.
    c.saturating_add-len.ensures
    ∙ bytes_more c.args.id names c.args.taken.now c.args.rows.now c.loop-row.row-index c.row-item.result c.loop-row.len c.slice_len_after.result (omega arith) c.row-item.is
    (c.loop-row.invariant names h) (c.slice_len_after.ensures names h)

pub returns : goal.returns
returns c = λ names h.
    c.loop-row.invariant names h
    ∙ ap (λ (rs : List TableRow). told (length (entries_bytes (rows_after c.args.id names c.args.taken.now rs)))) (take_all c.loop-row.row-index c.args.rows.now (omega arith))

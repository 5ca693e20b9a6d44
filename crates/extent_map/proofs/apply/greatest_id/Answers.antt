use Rattle.std.proofs.Common.{◌-◌, length, ap, sym, ◌∙◌, arith}
use Rattle.record_model.specs.declared.types.FileEntry.{FileEntry}
use Rattle.fs_model.specs.FsState.{TableRow}
use Rattle.extent_map.proofs.ApplyLaws.{greatest_last}
use Rattle.extent_map.proofs.apply.greatest_id.Goals as goal

pub returns-else-count-eq0-clause-greatest : goal.returns-else-count-eq0-clause-greatest
returns-else-count-eq0-clause-greatest c =
    let rows = c.args.rows.now in
    let row : TableRow = c.index-rows-count.result in
    ap (λ (e : FileEntry). e.id) c.entry.ensures.value ∙ ap (λ (r : TableRow). r.entry.id) c.index-rows-count.is
    ∙ sym (greatest_last 0 rows (length rows - 1) row c.requires (omega (arith, c.if-count-eq0.false)))

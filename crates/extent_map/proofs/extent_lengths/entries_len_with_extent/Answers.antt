use Rattle.std.proofs.Common.{List, length, ap, sym, ◌∙◌, arith}
use Rattle.std.proofs.lemmas.List.{take_all}
use Rattle.std.proofs.lemmas.List.Folds.{flat_map-map}
use Rattle.std.specs.List.{flat_map}
use Rattle.record_model.specs.Encoding.{entry_bytes, slice}
use Rattle.record_model.specs.declared.types.FileEntry.{FileEntry}
use Rattle.record_codec.specs.Length.{told}
use Rattle.fs_model.specs.FsState.{TableRow, working_entry}
use Rattle.extent_map.specs.ExtentLengths.{row_with_extent, rows_with_extent}
use Rattle.extent_map.proofs.extent_lengths.entries_len_with_extent.Goals as goal

pub returns : goal.returns
returns c =
    let rows = c.args.rows.now in
    let id = c.args.id in
    c.loop-row.invariant
    ∙ ap (λ (rs : List TableRow). told (length (flat_map (λ r. slice (entry_bytes (working_entry (row_with_extent id r)))) rs))) (take_all c.loop-row.row-index rows (omega arith))
    ∙ ap (λ bytes. told (length bytes))
    (sym (flat_map-map (λ (r : TableRow). slice (entry_bytes (working_entry r))) (row_with_extent id) rows)
    ∙ sym (flat_map-map (λ (e : FileEntry). slice (entry_bytes e)) working_entry (rows_with_extent id rows)))

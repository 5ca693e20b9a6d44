use Rattle.std.proofs.Common.{◌≡◌, [], List, length, refl, ◌∙◌}
use Rattle.record_model.specs.Encoding.{entry_bytes}
use Rattle.record_model.specs.declared.types.FileEntry.{FileEntry}
use Rattle.record_codec.specs.Length.{told}
use Rattle.fs_model.specs.FsState.{TableRow, working_of}
use Rattle.extent_map.specs.RowsAfter.{rows_after}
use Rattle.extent_map.proofs.AfterLaws.{bare_entry}
use Rattle.extent_map.proofs.LengthLaws.{told_update, told_snapshot}
use Rattle.extent_map.proofs.change_lengths.lengths_after.Goals as goal

pub returns : goal.returns
returns c = λ names h.
    let row = c.args.row.now in
    let e : FileEntry = record (row.entry) { extents = []; names = names } in
    let after : List TableRow = rows_after row.entry.id names c.args.taken.now c.args.rows.now in
    let bare = rw c.entry.ensures.value at c.bare_len-entry.ensures in
    let inside : c.bare_len-entry.result ≡ told (length (entry_bytes e)) = bare ∙ bare_entry c.args.names_len e h refl in
    let entries = rw c.id.ensures at (c.entries_len_after.ensures names h) in
    let greatest = rw c.id-2.ensures at (c.greatest_len_after.ensures names h) in
    record {
      change = told_update e c.bare_len-entry.result c.tagged_len.result inside c.tagged_len.ensures;
      snapshot = told_snapshot (working_of after) c.entries_len_after.result c.tagged_len-2.result entries c.tagged_len-2.ensures;
      longest = greatest;
    }

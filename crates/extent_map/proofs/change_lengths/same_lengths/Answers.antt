use Rattle.std.proofs.Common.{◌≡◌, [], length, refl, ◌∙◌}
use Rattle.record_model.specs.Encoding.{entry_bytes}
use Rattle.record_model.specs.declared.types.FileEntry.{FileEntry}
use Rattle.record_codec.specs.Length.{told}
use Rattle.extent_map.proofs.AfterLaws.{bare_entry}
use Rattle.extent_map.proofs.LengthLaws.{told_update}
use Rattle.extent_map.proofs.change_lengths.same_lengths.Goals as goal

pub returns : goal.returns
returns c =
    let row = c.args.row.now in
    let e : FileEntry = record (row.entry) { extents = [] } in
    let names = rw (c.items.ensures, c.entry.ensures.value) at c.names_len.ensures in
    let bare = rw c.entry-2.ensures.value at c.bare_len-entry.ensures in
    let inside : c.bare_len-entry.result ≡ told (length (entry_bytes e)) = bare ∙ bare_entry c.names_len.result e names refl in
    record {
      change = told_update e c.bare_len-entry.result c.tagged_len.result inside c.tagged_len.ensures;
      snapshot = c.snapshot_told.ensures;
      longest = c.greatest_len.ensures;
    }

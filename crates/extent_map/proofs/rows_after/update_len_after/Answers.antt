use Rattle.std.proofs.Common.{◌≡◌, List, length, max, ap, sym, ◌∙◌, arith}
use Rattle.record_model.specs.Encoding.{payload_of}
use Rattle.record_model.specs.declared.types.FileEntry.{FileEntry}
use Rattle.record_model.specs.declared.types.Record.TheVariants.{Update}
use Rattle.record_codec.specs.Length.{told}
use Rattle.fs_model.specs.FsState.{TableRow, working_entry, working_of}
use Rattle.extent_map.specs.Naming.{without_names}
use Rattle.extent_map.specs.Records.{greatest_len}
use Rattle.extent_map.specs.RowsAfter.{row_after}
use Rattle.extent_map.proofs.AfterLaws.{row_left}
use Rattle.extent_map.proofs.LengthLaws.{told_update}
use Rattle.extent_map.proofs.rows_after.update_len_after.Goals as goal

pub returns-in-Some : goal.returns-in-Some
returns-in-Some c = λ names h.
    let row = c.args.row.now in
    let e : FileEntry = working_entry (row_after c.args.id names (without_names c.args.taken.now row)) in
    let update : c.tagged_len.result ≡ told (length (payload_of (Update e))) = told_update e c.in-Some.len c.tagged_len.result (c.in-Some.ensures.length names h) c.tagged_len.ensures in
    let one : told (length (payload_of (Update e))) ≡ told (max (length (payload_of (Update e))) 0) = omega arith in
    update ∙ one ∙ ap (λ (rs : List TableRow). told (greatest_len (working_of rs))) (sym (row_left c.args.id names c.args.taken.now row c.in-Some.ensures.there))
